use Rattle.noc_counts.proofs.LowLemmas.{raised-zero}
use Rattle.noc_counts.proofs.low.Low+Row.add_if.Goals as goal

pub returns-else-have_some : goal.returns-else-have_some
returns-else-have_some c = raised-zero _ _ _ _ _ (c.have_some.ensures c.if-have_some.false) c.requires.none
