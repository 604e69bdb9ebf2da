use Rattle.std.proofs.Common.{◌≡◌, ap, refl, sym, ◌∙◌, subst}
use Rattle.noc_topo.specs.Shape.{ports}
use Rattle.noc_router.specs.Arbiters.{SizedArbiters}
use Rattle.noc_router.specs.Decided.{IsDecidedFor}
use Rattle.noc_router.specs.Inside.{view_of}
use Rattle.noc_router.specs.Settled.{AreContentsFor, decisions_by, view_after_tally, view_after_verdicts}
use Rattle.noc_view.specs.Verdict.{arbiters_after}
use Rattle.noc_view.specs.View.{Site, View, decisions_of, view_after_commit}
use Rattle.noc_view.proofs.SiteLemmas.{committed-site}
use Rattle.noc_router.proofs.OutcomeLemmas.{decisions-are, outcome-decided, outcome-tallied}
use Rattle.noc_router.proofs.RouterLemmas.{IsRouter-kept}
use Rattle.noc_router.proofs.CommitLemmas.{closed_with, committed-is, settled-arbiters, settled-site}
use Rattle.noc_router.proofs.router.Router.commit.Goals as goal

pub apply_verdicts-requires-clause-plan : goal.apply_verdicts-requires-clause-plan
apply_verdicts-requires-clause-plan c =
    let p = c.args.plan.now in
    let v = c.args.self.now in
    let P : View → Type 0 = λ x. AreContentsFor p x in
    subst P (sym c.note.ensures) (outcome-tallied p (decisions_by p v) v c.requires)

pub advance-requires : goal.advance-requires
advance-requires c =
    let p = c.args.plan.now in
    let v = c.args.self.now in
    let r = c.self.inside in
    let site : c.apply_verdicts.new.self.site ≡ v.site =
    ap (λ (w : View). w.site) c.apply_verdicts.ensures ∙ settled-site (decisions_by p c.note.new.self) c.note.new.self ∙ ap (λ (w : View). w.site) c.note.ensures in
    let ports_are : r.arbiters.ports ≡ ports v.site.grid = c.self.invariant.arbiter_ports ∙ c.self.invariant.ports ∙ ap (λ (w : View). ports w.site.grid) c.self.view_is ∙ ap (λ (s : Site). ports s.grid) site in
    let vcs_are : r.arbiters.vcs ≡ v.site.vcs = c.self.invariant.arbiter_vcs ∙ ap (λ (w : View). w.site.vcs) c.self.view_is ∙ ap (λ (s : Site). s.vcs) site in
    subst (λ n. IsDecidedFor n r.arbiters.vcs p) (sym ports_are) (subst (λ n. IsDecidedFor (ports v.site.grid) n p) (sym vcs_are) (outcome-decided p v c.requires))

pub invariant_of-self : goal.invariant_of-self
invariant_of-self c =
    let r = c.self.inside in
    let arbiters = c.advance.ensures in
    IsRouter-kept r (record r { arbiters = c.advance.new.self }) c.self.invariant refl refl refl refl refl refl refl refl (λ i h. h) refl refl refl (ap (λ (t : SizedArbiters). t.ports) arbiters) (ap (λ (t : SizedArbiters). t.vcs) arbiters)

pub returns-clause-view : goal.returns-clause-view
returns-clause-view c = λ relation is.
    let p = c.args.plan.now in
    let v = c.args.self.now in
    let d = decisions_by p v in
    c.end_cycle.ensures
    ∙ ap (λ (x : View). closed_with x.arbiters x) (ap (λ (t : SizedArbiters). record (view_of c.self.inside) { arbiters = t.states }) c.advance.ensures ∙ ap (λ (x : View). record x { arbiters = arbiters_after d.round x.arbiters }) c.self.view_is)
    ∙ ap (λ (x : View). closed_with (arbiters_after d.round x.arbiters) x)
    (c.apply_verdicts.ensures ∙ ap (λ (x : View). view_after_verdicts (decisions_by p x) x) c.note.ensures)
    ∙ ap (λ a. closed_with (arbiters_after d.round a) (view_after_verdicts d (view_after_tally d v))) (settled-arbiters d (view_after_tally d v))
    ∙ committed-is d v
    ∙ ap (λ x. view_after_commit x v) (decisions-are relation p v is)

pub returns-clause-site : goal.returns-clause-site
returns-clause-site c =
    let v = c.args.self.now in
    ap (λ (x : View). x.site) (returns-clause-view c c.requires.relation c.requires.is) ∙ committed-site (decisions_of c.requires.relation v) v
