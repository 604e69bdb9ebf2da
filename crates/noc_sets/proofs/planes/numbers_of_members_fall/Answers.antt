use Rattle.noc_sets.proofs.PlaneLemmas.{lowered-modulo}
use Rattle.noc_sets.proofs.planes.numbers_of_members_fall.Goals as goal

pub returns : goal.returns
returns c = λ planes set x fits small. lowered-modulo planes set x fits small
