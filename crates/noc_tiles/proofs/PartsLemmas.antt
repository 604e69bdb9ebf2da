-- The parts of a network and the lockstep run, both ways. Nothing else in this crate uses what the
-- parts of a network promise.
use Rattle.std.proofs.Common.{◌≡◌, ℕ, ◌+◌, ◌<◌, ◌≤◌, Vec, Global, length, vec_len, ap, sym, ◌∙◌, arith}
use Rattle.noc_topo.specs.Shape.{nodes}
use Rattle.noc_view.specs.View.{View}
use Rattle.noc_theory.specs.Good.{IsGoodSetup}
use Rattle.noc_net.proofs.PartsLemmas.{parts-in_step, views-in_step, wires-in_step}
use Rattle.noc_theory.specs.declared.limits.TheConstants.{CYCLE_LIMIT}
use Rattle.noc_theory.specs.Lockstep.{lockstep_at}
use Rattle.noc_theory.specs.Network.{Run}
use Rattle.noc_net.specs.Parts.{AreParts, run_in, setup_in}
use Rattle.noc_net.specs.declared.parts.Parts.{Parts}
use Rattle.noc_tiles.specs.Partition.{InFlight, IsKept}
use Rattle.noc_net.specs.declared.workers.TheConstants.{MAX_WORKERS}
use Rattle.noc_tiles.proofs.BoundaryLemmas.{vec-length}

-- what parts say of the lockstep run
module _ (P : Parts) (A : AreParts P) where
  pub parts-views : P.routers.items ≡ (lockstep_at (setup_in P) P.count).views
  parts-views = views-in_step P A

  pub parts-flight : InFlight (setup_in P) P.count P.beats.items
  parts-flight = wires-in_step P A

  pub parts-beats : length P.beats.items ≡ nodes P.relation.grid
  parts-beats = sym (vec-length P.beats) ∙ A.beats

  -- without their routers they are kept of the network while its tiles run
  pub parts-kept : (rest : Vec View Global) (network : Run) → run_in P ≡ network → (cycles workers : ℕ)
      → (0 < workers) × (workers ≤ MAX_WORKERS) × (network.count + cycles ≤ CYCLE_LIMIT)
      → IsKept (record { parts = record P { routers = rest }; cycles = cycles; workers = workers })
  parts-kept rest network is cycles workers asked = record {
    good = A.good;
    some = asked.0;
    few = asked.1;
    size = parts-beats;
    flight = parts-flight;
    room = A.room;
    end = omega (arith, asked.2, ap (λ (u : Run). u.count) is);
  }

-- parts of the lockstep run, where the setup is good and the count within the limit
pub parts-again : (P : Parts) → IsGoodSetup (setup_in P) → P.count ≤ CYCLE_LIMIT → P.routers.items ≡ (lockstep_at (setup_in P) P.count).views → InFlight (setup_in P) P.count P.beats.items
    → vec_len P.beats ≡ nodes P.relation.grid → vec_len P.room ≡ nodes P.relation.grid → AreParts P
parts-again P good within views wires beats room = parts-in_step P good within views wires beats room
