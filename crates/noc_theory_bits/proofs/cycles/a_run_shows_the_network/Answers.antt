use Rattle.noc_theory_bits.proofs.bits.NetworkLemmas.{run-shows}
use Rattle.noc_theory_bits.proofs.cycles.a_run_shows_the_network.Goals as goal

pub returns : goal.returns
returns c = λ count net layout end n w made is_layout few run l. run-shows net made layout is_layout end w few run n l
