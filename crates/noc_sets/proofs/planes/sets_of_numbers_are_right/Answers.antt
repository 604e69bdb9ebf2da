use Rattle.noc_sets.proofs.PlaneLemmas.{filled-members, more-members, other-members}
use Rattle.noc_sets.proofs.planes.sets_of_numbers_are_right.Goals as goal

pub returns-clause-some : goal.returns-clause-some
returns-clause-some c = λ planes x. filled-members planes x

pub returns-clause-more : goal.returns-clause-more
returns-clause-more c = λ planes x. more-members planes x

pub returns-clause-other : goal.returns-clause-other
returns-clause-other c = λ planes others x long. other-members planes others x long
