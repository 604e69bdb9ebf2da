use Rattle.noc_theory_bits.proofs.bits.NetworkLemmas.{parts-network}
use Rattle.noc_theory_bits.proofs.own.parts_show_the_network_together.Goals as goal

pub returns : goal.returns
returns c = λ count net part n parts w made shows joined. parts-network net made part n parts w shows joined
