use Rattle.noc_theory.proofs.join.CoreOpeningLemmas.{counts-sum, counts-few}
use Rattle.noc_theory.proofs.views.counts_add_up.Goals as goal

pub returns-clause-sum : goal.returns-clause-sum
returns-clause-sum c = λ net n r i. counts-sum net n r i

pub returns-clause-few : goal.returns-clause-few
returns-clause-few c = λ net n r i few. counts-few net n r i few
