use Rattle.noc_theory.proofs.worms.NetworkLemmas.{out-at}
use Rattle.noc_theory.proofs.ownership.flits_go_out_in_order.Goals as goal

pub returns-clause-rising : goal.returns-clause-rising
returns-clause-rising c = λ net n p i j a b made low within before e f. (out-at net made n).rising p i j a b (low, within) before e f

pub returns-clause-over : goal.returns-clause-over
returns-clause-over c = λ net n p i a made low within e. (out-at net made n).before p i a (low, within) e
