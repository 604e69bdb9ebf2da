use Rattle.noc_theory.proofs.worms.TurnLemmas.{take-turns}
use Rattle.noc_theory.proofs.latency.packets_to_a_node_take_turns.Goals as goal

pub returns : goal.returns
returns c = λ net n k node longest packets made these out. take-turns net made n k node longest packets these out
