use Rattle.std.proofs.Common.{◌≡◌, ℕ, ◌<◌, None, Some, true, get_or, is_some, length}
use Rattle.std.specs.Prelude.{if◌then◌else◌}
use Rattle.noc_topo.specs.Shape.{neighbour}
use Rattle.noc_view.specs.View.{idle_beat}
use Rattle.noc_wires.proofs.room.Room.decide.Given as goal

-- the beats for the ports before this one are to be put
abbrev pub invariant-loop-port : goal.invariant-loop-port
invariant-loop-port l = record {
  steps : l.self.steps ≡ l.initial.self.steps;
  decided : l.self.decided ≡ true;
  wires : l.self.wires ≡ l.initial.self.wires;
  taken : l.self.taken ≡ l.initial.self.taken;
  count : length l.self.unput ≡ 6;
  before : (port : ℕ) → port < l.port → get_or l.self.unput port None ≡ (if is_some (neighbour l.router.site.grid l.router.site.node port) then Some (get_or l.beats port idle_beat) else None);
}
