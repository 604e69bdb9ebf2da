-- The lockstep run of every good network is the run of the whole network.
use Rattle.std.proofs.Common.{ℕ, ◌≤◌}
use Rattle.noc_theory.proofs.Common.{CYCLE_LIMIT, Setup, IsGoodSetup, IsWellFormedSetup, AreSeen}
use Rattle.noc_theory.proofs.worms.BuiltLemmas.{good-built, good-wired, good-covering, well-formed}
use Rattle.noc_theory.proofs.join.OrderedStateLemmas.{lockstep-is_network}
use Rattle.noc_theory.proofs.join.OrderedLemmas.{IsGood, AreShort}

pub good-network : (net : Setup) → IsWellFormedSetup net → IsGood net
good-network net good = record {
  built = good-built net good;
  wired = good-wired net good;
  covering = good-covering net good;
  relation = good.relation;
  packets = λ p l. good.packets p (record { source = 0; destination = 0; class = 0; length = 0; due = 0 }) l;
}

-- in a good setup no packet is longer than a router takes
pub are-short : (net : Setup) → IsGoodSetup net → AreShort net
are-short net good p l = (good.packets p (record { source = 0; destination = 0; class = 0; length = 0; due = 0 }) l).length

-- at every count that a run can have, the routers and the wires of the lockstep run are those of
-- the state of the whole network
pub lockstep-is_state : (net : Setup) → IsGoodSetup net → (n : ℕ) → n ≤ CYCLE_LIMIT → AreSeen net n
lockstep-is_state net good n l = lockstep-is_network net (good-network net (well-formed net good)) (are-short net good) n l
