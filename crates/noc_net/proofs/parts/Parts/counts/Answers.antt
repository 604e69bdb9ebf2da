use Rattle.std.proofs.Common.{◌≡◌, ℕ, ◌+◌, ◌*◌, ◌/◌, ◌<◌, [], refl, ap, sym, ◌∙◌, subst, arith, get_or}
use Rattle.std.proofs.lemmas.Nat.{div-mul-add}
use Rattle.std.proofs.Math.Nat.{div-lt_iff_lt-mul}
use Rattle.noc_topo.specs.Shape.{ports}
use Rattle.noc_view.specs.View.{Site, View}
use Rattle.noc_net.specs.Parts.{run_in, setup_in}
use Rattle.noc_topo.proofs.ListLemmas.{get_or-tabulate}
use Rattle.noc_theory.specs.Lockstep.{counts_before, view_at}
use Rattle.noc_theory.specs.Network.{Setup, size}
use Rattle.noc_net.proofs.ReaderLemmas.{count_routers, router_at, router_site}
use Rattle.noc_net.proofs.parts.Parts.counts.Goals as goal

counted : (net : Setup) (n r i : ℕ) → i < size net → get_or (view_at net n r).counts i [] ≡ counts_before net n r i
unfolding view_at
counted net n r i l = get_or-tabulate (size net) i (counts_before net n r) [] l

index-below : (ports vcs port vc : ℕ) → port < ports → vc < vcs → port * vcs + vc < ports * vcs
index-below ports vcs port vc l u =
    let some : 0 < vcs = omega arith in
    let q : (port * vcs + vc) / vcs ≡ port = div-mul-add port vcs vc u in
    (div-lt_iff_lt-mul {k = vcs} {x = port * vcs + vc} {y = ports} some).0 (omega (arith, q))

pub index-requires : goal.index-requires
index-requires c = omega (arith, c.requires.router, count_routers c.args.self.now c.requires.parts)

pub counts-requires-clause-port : goal.counts-requires-clause-port
counts-requires-clause-port c =
    let parts = c.args.self.now in
    subst (λ (s : Site). c.args.port < ports s.grid) (sym (router_site parts c.requires.parts c.args.router c.index.result.now c.requires.router c.index.ensures)) c.requires.port

pub counts-requires-clause-vc : goal.counts-requires-clause-vc
counts-requires-clause-vc c =
    let parts = c.args.self.now in
    subst (λ (s : Site). c.args.vc < s.vcs) (sym (router_site parts c.requires.parts c.args.router c.index.result.now c.requires.router c.index.ensures)) c.requires.vc

pub returns : goal.returns
returns c =
    let parts = c.args.self.now in
    let vcs : c.index.result.now.site.vcs ≡ parts.relation.vcs = ap (λ (s : Site). s.vcs) (router_site parts c.requires.parts c.args.router c.index.result.now c.requires.router c.index.ensures) in
    c.counts.ensures
    ∙ ap (λ (n : ℕ). get_or c.index.result.now.counts (c.args.port * n + c.args.vc) []) vcs
    ∙ ap (λ (v : View). get_or v.counts (c.args.port * parts.relation.vcs + c.args.vc) []) (router_at parts c.requires.parts (run_in parts) refl c.args.router c.index.result.now c.requires.router c.index.ensures)
    ∙ counted (setup_in parts) parts.count c.args.router (c.args.port * parts.relation.vcs + c.args.vc) (index-below _ _ _ _ c.requires.port c.requires.vc)
