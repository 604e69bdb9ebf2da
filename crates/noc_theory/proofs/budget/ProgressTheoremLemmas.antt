-- What holds of every network that was made. Where ranks rise along its relation, each
-- pending cycle has an event. Each event is one less to come, and by the last due time and
-- the budget all packets are out.
use Rattle.std.proofs.Common.{◌≡◌, ℕ, suc, ◌+◌, ◌<◌, ◌≤◌, true, false, length, Some}
use Rattle.noc_route.specs.Ranks.{IsRankedBy, Ranking, rank_at}
use Rattle.noc_theory.proofs.Common.{Setup, packet_at, state_at, frozen_at, network_cycle, arrival_in, remainder, budget, events, is_pending, is_stuck, IsWellFormedSetup}
use Rattle.noc_theory.proofs.worms.BuiltLemmas.{good-built, good-wired}
use Rattle.noc_theory.proofs.worms.WormOrderLemmas.{whole-at, whole-frozen_at}
use Rattle.noc_theory.proofs.worms.NetworkLemmas.{queued-frozen_at, led-frozen_at}
use Rattle.noc_theory.proofs.budget.ProgressRecordLemmas.{IsBuilt}
use Rattle.noc_theory.proofs.budget.BuiltProgressLemmas.{built-good, nearer-good}
use Rattle.noc_theory.proofs.budget.DistanceBoundLemmas.{distance-within}
use Rattle.noc_theory.proofs.budget.WormChainLemmas.{IsChain}
use Rattle.noc_theory.proofs.budget.ProgressLemmas.{pending-event, never-stuck}
use Rattle.noc_theory.proofs.budget.ChainLemmas.{chain-whole}
use Rattle.noc_theory.proofs.budget.CountableLemmas.{flies, frees, starts, distinct-sorted}
use Rattle.noc_theory.proofs.budget.HeadLemmas.{heads-whole, moves-whole}
use Rattle.noc_theory.proofs.budget.CycleRemainderLemmas.{IsCountable, cycle-falls}
use Rattle.noc_theory.proofs.budget.OpeningProgressLemmas.{opening-budget}
use Rattle.noc_theory.proofs.budget.DrainLemmas.{arrives-by, idle-by}

module _ (net : Setup) (good : IsWellFormedSetup net) where
  pub built : IsBuilt net
  built = built-good net good

  pub chain : (n : ℕ) → IsChain net (frozen_at net n)
  chain n = chain-whole net (good-built net good) (frozen_at net n) (whole-frozen_at net good n) (queued-frozen_at net good n) (led-frozen_at net good n) (good-wired net good)

  pub countable : (n : ℕ) → IsCountable net n (state_at net n)
  countable n = record {
    flies = flies net (good-built net good) (good-wired net good) (state_at net n) (whole-at net good n);
    frees = frees net (good-built net good) (good-wired net good) (state_at net n) (whole-at net good n);
    starts = starts net (good-built net good) (good-wired net good) (state_at net n) (whole-at net good n) n;
    heads = heads-whole net (good-built net good) (good-wired net good) (frozen_at net n) (whole-frozen_at net good n) n;
    moves = moves-whole net (good-built net good) (good-wired net good) (frozen_at net n) (whole-frozen_at net good n) n;
  }

  -- each cycle lowers what is left by its events
  pub each-cycle : (n : ℕ) → remainder net (state_at net n) ≡ remainder net (network_cycle net n (state_at net n)) + events net n (state_at net n)
  each-cycle n = cycle-falls net n (state_at net n) (countable n) (distinct-sorted (state_at net n).at (whole-at net good n).sound.keyed.sorted)

  each-cycle-falls : (n : ℕ) → remainder net (state_at net n) ≡ remainder net (state_at net (suc n)) + events net n (state_at net n)
  unfolding state_at
  each-cycle-falls n = each-cycle n

  module _ (ranks : Ranking) (ranked : IsRankedBy net.relation ranks) where
    -- each pending cycle has an event
    pub each-pending : (n : ℕ) → is_pending net n (state_at net n) ≡ true → 0 < events net n (state_at net n)
    each-pending = pending-event net built chain (nearer-good net good) 30 (distance-within net good.relation.table.grid) (rank_at ranks) ranked

    -- so the network is stuck at no count
    pub not-stuck : (n : ℕ) → is_stuck net n ≡ false
    not-stuck = never-stuck net built chain (nearer-good net good) 30 (distance-within net good.relation.table.grid) (rank_at ranks) ranked

    module _ (last : ℕ) (due : (p : ℕ) → p < length net.packets → (packet_at net p).due ≤ last) where
      -- all packets arrive before the last due time and the budget
      pub each-arrives : (n : ℕ) → last + budget net ≤ n → (p : ℕ) → p < length net.packets → (m : ℕ) × (arrival_in net (state_at net n) p ≡ Some m) × (m < last + budget net)
      unfolding state_at
      each-arrives = arrives-by net last due each-cycle-falls (opening-budget net) each-pending

      pub each-idle : (n : ℕ) → last + budget net ≤ n → is_pending net n (state_at net n) ≡ false
      unfolding state_at
      each-idle = idle-by net last due each-cycle-falls (opening-budget net) each-pending
