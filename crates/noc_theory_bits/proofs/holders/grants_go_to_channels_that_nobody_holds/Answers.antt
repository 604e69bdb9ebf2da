use Rattle.noc_theory_bits.proofs.bits.HolderLemmas.{granted-end}
use Rattle.noc_theory_bits.proofs.holders.grants_go_to_channels_that_nobody_holds.Goals as goal

pub returns : goal.returns
returns c = λ net n s o k r port made l u granted e. granted-end net made n s o k r port l u granted e
