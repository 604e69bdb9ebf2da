use Rattle.std.proofs.Common.{◌≡◌, ℕ, ◌<◌, [], Some, get_or, slice_get, take}
use Rattle.noc_wires.specs.declared.room.Room.{Room}
use Rattle.noc_theory.specs.Halves.{beat_at}
use Rattle.noc_wires.specs.Room.{front_of, wires_in}
use Rattle.noc_net.proofs.event_core.land_all.Given as goal

-- the beats before this node have landed
abbrev pub invariant-loop-node : goal.invariant-loop-node
invariant-loop-node l = (r : ℕ) (one : Room) (port : ℕ) → r < l.node → slice_get l.room r ≡ Some one
    → beat_at l.beats r port ≡ front_of (get_or (take l.links (wires_in one)) port [])
