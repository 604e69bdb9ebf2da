use Rattle.std.proofs.Common.{◌≡◌, ◌∙◌, ℕ, Bool, true, false, List, [], ap, arith, flat_map, length, refl, sym}
use Rattle.std.specs.Prelude.{if◌then◌else◌}
use Rattle.noc_topo.specs.Shape.{Grid}
use Rattle.noc_topo.specs.Lists.{below}
use Rattle.noc_files.specs.Channels.{is_input, lines_of_port, lines_of_router}
use Rattle.noc_files.proofs.BelowLemmas.{each_none}
use Rattle.noc_files.proofs.PageLemmas.{added_more, added_none}
use Rattle.noc_files.proofs.listing.ListingPages.fill.Goals as goal

-- a router of whose channels nothing is said has no lines
no_lines : (g : Grid) (listed vcs r : ℕ) (said : ℕ → ℕ → List ℕ) → ((port vc : ℕ) → said port vc ≡ []) → lines_of_router g listed vcs r said ≡ []
no_lines g listed vcs r said none = each_none (lines_of_port g vcs r said) (below listed) (λ port. either port (is_input g r port))
  where
    either : (port : ℕ) (b : Bool) → (if b then flat_map (said port) (below vcs) else []) ≡ []
    either port true = each_none (said port) (below vcs) (none port)
    either port false = refl

pub returns-then-is_silent : goal.returns-then-is_silent
returns-then-is_silent g c =
    let l = g.L.Lines in
    let s = c.args.self.now in
    let lines = s.lines.now in
    let router = c.unwrap_or-router.result in
    rw (← c.unwrap_or-router.ensures) (c.clear.ensures ∙ sym (no_lines (l.grid lines) (l.listed lines) (l.vcs lines) router (l.said lines router) (c.is_silent.ensures c.if-is_silent.true)))

pub loop-port-init : goal.loop-port-init
loop-port-init g c =
    let l = g.L.Lines in
    let s = c.args.self.now in
    let lines = s.lines.now in
    let router = c.unwrap_or-router.result in
    record { said = c.clear.ensures ∙ added_none (lines_of_port (l.grid lines) (l.vcs lines) router (l.said lines router)) []; short = omega (arith, ap length c.clear.ensures) }

pub loop-port-preserved : goal.loop-port-preserved
loop-port-preserved g c =
    let l = g.L.Lines in
    let s = c.args.self.now in
    let lines = s.lines.now in
    let router = c.unwrap_or-router.result in
    let said = lines_of_port (l.grid lines) (l.vcs lines) router (l.said lines router) in
    record {
      said = added_more said [] c.loop-port.port c.loop-port.page c.add_port.new.page c.loop-port.invariant.said c.add_port.ensures.said;
      short = omega (arith, c.add_port.ensures.short, c.loop-port.invariant.short);
    }
