-- A network taken apart (docs/MODEL.md, "One router and the whole network").
use Rattle.std.specs.Prelude.{◌≡◌, ℕ, ◌≤◌, vec_len}
use Rattle.noc_topo.specs.Shape.{nodes}
use Rattle.noc_topo.specs.Lists.{tabulate}
use Rattle.noc_theory.specs.declared.limits.TheConstants.{CYCLE_LIMIT}
use Rattle.noc_theory.specs.Good.{IsGoodSetup}
use Rattle.noc_theory.specs.Halves.{beat_at}
use Rattle.noc_theory.specs.Lockstep.{beats_in, view_at}
use Rattle.noc_theory.specs.Network.{Setup, Run, state_at}
use Rattle.noc_net.specs.declared.parts.Parts.{Parts}

abbrev pub setup_in : Parts → Setup
setup_in parts = record {
  relation = parts.relation;
  depth = parts.buffer;
  packets = parts.packets.items;
}

-- the four values of the network that parts are of
abbrev pub run_in : Parts → Run
run_in parts = record { net = setup_in parts; count = parts.count }

-- the setup is good, and each router has its view of the network's state at that count, with
-- its findings. The beats in flight are those of that state, idle where there is no link, and
-- there is room for each router
pub record AreParts (parts : Parts) : Type 0 where
  pub good : IsGoodSetup (setup_in parts)
  pub within : parts.count ≤ CYCLE_LIMIT
  pub views : parts.routers.items
      ≡ tabulate (nodes parts.relation.grid) (view_at (setup_in parts) parts.count)
  pub wires : (r port : ℕ)
      → beat_at parts.beats.items r port
      ≡ beat_at (beats_in (setup_in parts) (state_at (setup_in parts) parts.count)) r port
  pub beats : vec_len parts.beats ≡ nodes parts.relation.grid
  pub room : vec_len parts.room ≡ nodes parts.relation.grid
