-- The lockstep run shows the run of the network: all phases together.
use Rattle.std.proofs.Common.{ℕ, ◌≤◌}
use Rattle.noc_theory.proofs.Common.{CYCLE_LIMIT, Setup, state_at, frozen_at, AreSeen}
use Rattle.noc_theory.proofs.verdicts.CommitLemmas.{commits}
use Rattle.noc_theory.proofs.injection.InjectLemmas.{injects}
use Rattle.noc_theory.proofs.join.JoinLemmas.{all-seen}
use Rattle.noc_theory.proofs.join.OpeningViewLemmas.{opens}
use Rattle.noc_theory.proofs.join.OrderedLemmas.{IsGood, AreShort, IsOrdered, IsOrderedFrozen}
use Rattle.noc_theory.proofs.join.PhaseLemmas.{ArePhases, mid}
use Rattle.noc_theory.proofs.landing.TakeAllLemmas.{takes}

pub phases : (net : Setup) → IsGood net → AreShort net → ArePhases net
phases net good short = record {
  takes = λ S x r l v seen had. takes net good S x short r l v seen had;
  injects = λ M x n r l v seen. injects net good M x n r l v seen;
  commits = λ F x n r l v seen given counts. commits net good F x n r l v seen given counts;
  opens = λ r l. opens net good r l;
}

-- at every count that a run can have, each router has the view that the state gives
-- it, and each wire its beat
pub joined : (net : Setup) → IsGood net → AreShort net → ((n : ℕ) → IsOrdered net (state_at net n)) → ((n : ℕ) → IsOrderedFrozen net (mid net (state_at net n))) → ((n : ℕ) → IsOrderedFrozen net (frozen_at net n))
    → (n : ℕ) → n ≤ CYCLE_LIMIT → AreSeen net n
joined net good short ordered middle last n l = all-seen net (phases net good short) good ordered middle last n l
