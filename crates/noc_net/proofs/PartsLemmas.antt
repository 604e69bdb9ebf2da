-- Parts of a network are those of its routers in lockstep.
use Rattle.std.proofs.Common.{◌≡◌, ℕ, ◌≤◌, List, ap, sym, ◌∙◌, vec_len}
use Rattle.noc_topo.specs.Shape.{nodes}
use Rattle.noc_packet.specs.declared.packet.Beat.{Beat}
use Rattle.noc_theory.specs.declared.limits.TheConstants.{CYCLE_LIMIT}
use Rattle.noc_theory.specs.Good.{IsGoodSetup}
use Rattle.noc_theory.specs.Halves.{beat_at}
use Rattle.noc_theory.specs.Lockstep.{lockstep_at}
use Rattle.noc_net.specs.declared.parts.Parts.{Parts}
use Rattle.noc_net.specs.Parts.{AreParts, setup_in}
use Rattle.noc_theory.proofs.join.LockstepTheoremLemmas.{lockstep-is_state}

pub views-in_step : (parts : Parts) → AreParts parts → parts.routers.items ≡ (lockstep_at (setup_in parts) parts.count).views
views-in_step parts sound = sound.views ∙ sym (lockstep-is_state (setup_in parts) sound.good parts.count sound.within).views

pub wires-in_step : (parts : Parts) → AreParts parts → (r port : ℕ) → beat_at parts.beats.items r port ≡ beat_at (lockstep_at (setup_in parts) parts.count).wires r port
wires-in_step parts sound r port =
    sound.wires r port ∙ ap (λ (wires : List (List Beat)). beat_at wires r port) (sym (lockstep-is_state (setup_in parts) sound.good parts.count sound.within).wires)

-- and routers in lockstep make parts
pub parts-in_step : (parts : Parts) → IsGoodSetup (setup_in parts) → parts.count ≤ CYCLE_LIMIT → parts.routers.items ≡ (lockstep_at (setup_in parts) parts.count).views
    → ((r port : ℕ) → beat_at parts.beats.items r port ≡ beat_at (lockstep_at (setup_in parts) parts.count).wires r port)
    → vec_len parts.beats ≡ nodes parts.relation.grid → vec_len parts.room ≡ nodes parts.relation.grid → AreParts parts
parts-in_step parts good within views wires beats room =
    let seen = lockstep-is_state (setup_in parts) good parts.count within in
    record {
      good = good;
      within = within;
      views = views ∙ seen.views;
      wires = λ r port. wires r port ∙ ap (λ (all : List (List Beat)). beat_at all r port) seen.wires;
      beats = beats;
      room = room;
    }
