use Rattle.noc_theory.proofs.worms.WormOrderLemmas.{credit-at}
use Rattle.noc_theory.proofs.ownership.credits_are_the_free_slots.Goals as goal

pub returns : goal.returns
returns c = λ net n channel made. credit-at net made n channel
