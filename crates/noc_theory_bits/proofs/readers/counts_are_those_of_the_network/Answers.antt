use Rattle.noc_theory_bits.proofs.bits.NetworkLemmas.{counts-read}
use Rattle.noc_theory_bits.proofs.readers.counts_are_those_of_the_network.Goals as goal

pub returns : goal.returns
returns c = λ count net n w r i shows l u. counts-read net n w shows r i l u
