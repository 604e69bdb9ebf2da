use Rattle.noc_theory.proofs.worms.NetworkLemmas.{one_on_link-at}
use Rattle.noc_theory.proofs.ownership.a_link_carries_one_flit.Goals as goal

pub returns : goal.returns
returns c = λ net n p i q j r port v w made x y e f. one_on_link-at net made n p i q j r port v w x y e f
