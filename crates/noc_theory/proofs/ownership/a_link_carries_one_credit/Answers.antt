use Rattle.noc_theory.proofs.Common.{Link, state_at}
use Rattle.noc_theory.proofs.worms.NetworkLemmas.{one_back-at}
use Rattle.noc_theory.proofs.worms.RoutedVerdictLemmas.{has-channel}
use Rattle.noc_theory.proofs.ownership.a_link_carries_one_credit.Goals as goal

pub returns : goal.returns
returns c = λ net n r port v w made a b.
    one_back-at net made n r port v w (has-channel (Link r port v) (state_at net n).back a) (has-channel (Link r port w) (state_at net n).back b)
