use Rattle.noc_theory_bits.proofs.bits.HolderLemmas.{first-holder}
use Rattle.noc_theory_bits.proofs.holders.first_flits_are_of_their_holder.Goals as goal

pub returns : goal.returns
returns c = λ net n r i f rest made l u e. first-holder net made n r l i f rest u e
