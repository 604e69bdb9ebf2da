use Rattle.noc_theory_bits.proofs.bits.NetworkLemmas.{found-read}
use Rattle.noc_theory_bits.proofs.readers.findings_are_those_of_the_network.Goals as goal

pub returns : goal.returns
returns c = λ count net layout n b t next r i made is_layout few shows run l u. found-read net made layout is_layout n b t next few shows run r i l u
