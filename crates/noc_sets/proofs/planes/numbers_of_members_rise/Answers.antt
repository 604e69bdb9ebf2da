use Rattle.noc_sets.proofs.PlaneLemmas.{raised-modulo}
use Rattle.noc_sets.proofs.planes.numbers_of_members_rise.Goals as goal

pub returns : goal.returns
returns c = λ planes set x. raised-modulo planes set x
