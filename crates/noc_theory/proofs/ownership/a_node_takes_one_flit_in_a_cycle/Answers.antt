use Rattle.noc_theory.proofs.worms.OneOutLemmas.{one-out}
use Rattle.noc_theory.proofs.ownership.a_node_takes_one_flit_in_a_cycle.Goals as goal

pub returns : goal.returns
returns c = λ net n p i q j cycle made v w same e f. one-out net made n p i q j cycle v w same e f
