use Rattle.noc_theory_cycles.proofs.ArriveLemmas.{arrived-network}
use Rattle.noc_theory_cycles.proofs.steps.arrivals_are_read_from_words.Goals as goal

pub returns : goal.returns
returns c = arrived-network
