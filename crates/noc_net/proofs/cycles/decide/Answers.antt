use Rattle.std.proofs.Common.{ap, ◌∙◌}
use Rattle.noc_view.specs.Finish.{view_after_finish}
use Rattle.noc_view.specs.View.{View}
use Rattle.noc_view.proofs.SiteLemmas.{all_taken-site}
use Rattle.noc_theory.specs.Halves.{view_after_decide}
use Rattle.noc_theory.proofs.runs.StepLemmas.{IsRelationOf-same_site}
use Rattle.noc_net.proofs.cycles.decide.Goals as goal

pub finish-requires : goal.finish-requires
finish-requires c =
    IsRelationOf-same_site c.args.relation.now c.args.router.now c.take_beats.new.router
    (ap (λ (v : View). v.site) c.take_beats.ensures.router ∙ all_taken-site c.args.relation.now _ c.args.router.now) c.requires.router

pub returns-clause-router : goal.returns-clause-router
unfolding view_after_decide
returns-clause-router c = c.finish.ensures ∙ ap (view_after_finish c.args.relation.now c.args.cycle) c.take_beats.ensures.router
