use Rattle.noc_theory_bits.proofs.bits.HolderLemmas.{holders-told}
use Rattle.noc_theory_bits.proofs.holders.grants_tell_the_holder.Goals as goal

pub returns : goal.returns
returns c = λ net n packets made shows r l. holders-told net made n packets shows r l
