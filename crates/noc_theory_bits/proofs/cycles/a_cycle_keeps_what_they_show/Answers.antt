use Rattle.noc_theory_bits.proofs.bits.NetworkLemmas.{network-next}
use Rattle.noc_theory_bits.proofs.cycles.a_cycle_keeps_what_they_show.Goals as goal

pub returns : goal.returns
returns c = λ count net layout n b t next made is_layout few shows run. network-next net made layout is_layout n b t next few shows run
