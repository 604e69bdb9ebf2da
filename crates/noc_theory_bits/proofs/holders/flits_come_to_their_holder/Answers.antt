use Rattle.noc_theory_bits.proofs.bits.HolderLemmas.{wire-holder}
use Rattle.noc_theory_bits.proofs.holders.flits_come_to_their_holder.Goals as goal

pub returns : goal.returns
returns c = λ net n r i f made l e. wire-holder net made n r l i f e
