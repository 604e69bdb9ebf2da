use Rattle.noc_theory_bits.proofs.stuck.WaitLemmas.{network-waits}
use Rattle.noc_theory_bits.proofs.cycles.a_wait_keeps_what_they_show.Goals as goal

pub returns : goal.returns
returns c = λ count net n times end was is later made sums limit before after may waited. network-waits net made n times end sums limit was is later before after may waited
