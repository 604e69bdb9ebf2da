use Rattle.noc_theory_headline.proofs.CycleLemmas.{right-cycle}
use Rattle.noc_theory_headline.proofs.laws.every_cycle_is_right.Goals as goal

pub returns : goal.returns
returns c = λ net n made. right-cycle net made n
