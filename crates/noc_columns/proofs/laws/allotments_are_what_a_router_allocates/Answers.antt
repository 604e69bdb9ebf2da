use Rattle.noc_columns.proofs.AllocatedLemmas.{is-allocated}
use Rattle.noc_columns.proofs.laws.allotments_are_what_a_router_allocates.Goals as goal

pub returns : goal.returns
returns c = λ size vcs a b column m some few waits clear unlost has. is-allocated size vcs a b some few waits clear has m column unlost
