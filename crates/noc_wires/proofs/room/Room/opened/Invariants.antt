use Rattle.std.proofs.Common.{◌≡◌, ℕ, ◌<◌, [], ◌∷◌, None, false, get_or, is_some, length, replicate}
use Rattle.std.specs.Prelude.{if◌then◌else◌}
use Rattle.noc_topo.specs.Shape.{neighbour}
use Rattle.noc_view.specs.View.{idle_beat}
use Rattle.noc_wires.specs.Room.{wires_in}
use Rattle.noc_wires.proofs.room.Room.opened.Given as goal

-- the wires before this port have their beats in flight
abbrev pub invariant-loop-port : goal.invariant-loop-port
invariant-loop-port l = record {
  steps : l.room.steps ≡ l.steps;
  decided : l.room.decided ≡ false;
  taken : l.room.taken ≡ replicate 6 None;
  unput : l.room.unput ≡ replicate 6 None;
  count : length l.room.wires ≡ 6;
  before : (port : ℕ) → port < l.port → get_or (wires_in l.room) port [] ≡ (if is_some (neighbour l.router.site.grid l.router.site.node port) then get_or l.beats port idle_beat ∷ [] else []);
}
