use Rattle.noc_files.proofs.GreatestLemmas.{greatest_is, greatest_none}
use Rattle.noc_files.proofs.summary.the_greatest_is_one_of_them.Goals as goal

pub returns-clause-greatest : goal.returns-clause-greatest
returns-clause-greatest c = λ ns m e. greatest_is ns m e

pub returns-clause-none : goal.returns-clause-none
returns-clause-none c = λ ns e. greatest_none ns e
