use Rattle.std.proofs.Common.{ap, take, arith, sym, ◌∙◌}
use Rattle.std.proofs.lemmas.List.{take_all}
use Rattle.noc_topo.specs.Shape.{local_port}
use Rattle.noc_view.specs.View.{Site, view_after_takes_from, view_after_takes}
use Rattle.noc_view.proofs.SiteLemmas.{taken_from-site}
use Rattle.noc_router.proofs.TakeLemmas.{taken_from-next}
use Rattle.noc_router.proofs.router.Router.take_all.Goals as goal

pub take-requires-clause-relation : goal.take-requires-clause-relation
take-requires-clause-relation c =
    let site = ap (λ v. v.site) c.loop-port.invariant ∙ taken_from-site c.args.relation.now 0 (take c.loop-port.port c.args.beats.now) c.args.self.now in
    record {
      grid = c.requires.relation.grid ∙ sym (ap (λ (s : Site). s.grid) site);
      vcs = c.requires.relation.vcs ∙ sym (ap (λ (s : Site). s.vcs) site);
    }

pub take-requires-clause-port : goal.take-requires-clause-port
take-requires-clause-port c =
    let site = ap (λ v. v.site) c.loop-port.invariant ∙ taken_from-site c.args.relation.now 0 (take c.loop-port.port c.args.beats.now) c.args.self.now in
    let links = ap (λ (s : Site). local_port s.grid) site in
    omega arith

pub loop-port-preserved : goal.loop-port-preserved
loop-port-preserved c =
    c.take.ensures.view ∙ taken_from-next c.args.relation.now c.args.beats.now c.loop-port.port _ c.args.self.now c.loop-port.self c.loop-port-test.true c.loop-port.invariant

pub returns : goal.returns
unfolding view_after_takes
returns c =
    c.loop-port.invariant ∙ ap (λ beats. view_after_takes_from c.args.relation.now 0 beats c.args.self.now) (take_all c.loop-port.port c.args.beats.now c.loop-port-test.false)
