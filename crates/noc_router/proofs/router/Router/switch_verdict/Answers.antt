use Rattle.std.proofs.Common.{◌≡◌, ℕ, ◌/◌, ◌%◌, true, false, not, None, get_or, ap, sym, ◌∙◌}
use Rattle.std.specs.Prelude.{if◌then◌else◌}
use Rattle.noc_topo.specs.Lists.{is_some_of}
use Rattle.noc_view.specs.View.{View}
use Rattle.noc_view.specs.declared.verdict.Verdict.TheVariants.{LostInput, LostSwitch, Moved}
use Rattle.noc_router.proofs.AskedLemmas.{other-number}
use Rattle.noc_router.proofs.router.Router.switch_verdict.Goals as goal

pub returns-then-ne : goal.returns-then-ne
returns-then-ne c = λ _.
    let v = c.args.self.now in
    let wins = c.args.wins.now in
    let i = c.args.index in
    let o = c.args.next in
    let picked : is_some_of (get_or c.args.picks.now (i / v.site.vcs) None) (i % v.site.vcs) ≡ false
    = sym (ap (λ (s : ℕ × ℕ). is_some_of (get_or c.args.picks.now s.0 None) s.1) c.split-port.ensures) ∙ other-number (get_or c.args.picks.now c.split-port.result.0 None) c.split-port.result.1 _ c.ne.ensures ∙ ap not c.if-ne.true in
    ap (λ b. if b then (if is_some_of (get_or wins (o / v.site.vcs) None) (i / v.site.vcs) then Moved else LostSwitch) else LostInput) (sym picked)

pub returns-then-ne-2 : goal.returns-then-ne-2
returns-then-ne-2 c = λ _.
    let v = c.args.self.now in
    let wins = c.args.wins.now in
    let i = c.args.index in
    let o = c.args.next in
    let picked : is_some_of (get_or c.args.picks.now (i / v.site.vcs) None) (i % v.site.vcs) ≡ true
    = sym (ap (λ (s : ℕ × ℕ). is_some_of (get_or c.args.picks.now s.0 None) s.1) c.split-port.ensures) ∙ other-number (get_or c.args.picks.now c.split-port.result.0 None) c.split-port.result.1 _ c.ne.ensures ∙ ap not c.if-ne.false in
    let won : is_some_of (get_or wins (o / v.site.vcs) None) (i / v.site.vcs) ≡ false
    = sym (ap (λ n. is_some_of (get_or wins (o / n) None) (i / v.site.vcs)) (ap (λ (w : View). w.site.vcs) c.self.view_is))
    ∙ sym (ap (λ (s : ℕ × ℕ). is_some_of (get_or wins (o / c.self.inside.vcs) None) s.0) c.split-port.ensures) ∙ other-number (get_or wins (o / c.self.inside.vcs) None) c.split-port.result.0 _ c.ne-else-ne.ensures ∙ ap not c.if-ne-2.true in
    ap (λ w. if w then Moved else LostSwitch) (sym won) ∙ ap (λ b. if b then (if is_some_of (get_or wins (o / v.site.vcs) None) (i / v.site.vcs) then Moved else LostSwitch) else LostInput) (sym picked)

pub returns-else-ne-2 : goal.returns-else-ne-2
returns-else-ne-2 c = λ _.
    let v = c.args.self.now in
    let wins = c.args.wins.now in
    let i = c.args.index in
    let o = c.args.next in
    let picked : is_some_of (get_or c.args.picks.now (i / v.site.vcs) None) (i % v.site.vcs) ≡ true
    = sym (ap (λ (s : ℕ × ℕ). is_some_of (get_or c.args.picks.now s.0 None) s.1) c.split-port.ensures) ∙ other-number (get_or c.args.picks.now c.split-port.result.0 None) c.split-port.result.1 _ c.ne.ensures ∙ ap not c.if-ne.false in
    let won : is_some_of (get_or wins (o / v.site.vcs) None) (i / v.site.vcs) ≡ true
    = sym (ap (λ n. is_some_of (get_or wins (o / n) None) (i / v.site.vcs)) (ap (λ (w : View). w.site.vcs) c.self.view_is))
    ∙ sym (ap (λ (s : ℕ × ℕ). is_some_of (get_or wins (o / c.self.inside.vcs) None) s.0) c.split-port.ensures) ∙ other-number (get_or wins (o / c.self.inside.vcs) None) c.split-port.result.0 _ c.ne-else-ne.ensures ∙ ap not c.if-ne-2.false in
    ap (λ w. if w then Moved else LostSwitch) (sym won) ∙ ap (λ b. if b then (if is_some_of (get_or wins (o / v.site.vcs) None) (i / v.site.vcs) then Moved else LostSwitch) else LostInput) (sym picked)
