use Rattle.noc_theory.proofs.join.CoreOpeningLemmas.{shown-next}
use Rattle.noc_theory.proofs.views.a_cycle_is_a_step_of_each_router.Goals as goal

pub returns : goal.returns
returns c = λ net n good l. shown-next net good n l
