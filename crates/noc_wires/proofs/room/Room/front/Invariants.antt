use Rattle.std.proofs.Common.{◌≡◌, ℕ, ◌<◌, ◌≤◌, [], get_or, length}
use Rattle.noc_view.specs.View.{idle_beat}
use Rattle.noc_wires.specs.Room.{front_of, wires_in}
use Rattle.noc_wires.proofs.room.Room.front.Given as goal

-- the beats before this port are the oldest ones of their wires
abbrev pub invariant-loop-port : goal.invariant-loop-port
invariant-loop-port l = record {
  count : length l.beats ≡ 6;
  before : (port : ℕ) → port < l.port → get_or l.beats port idle_beat ≡ front_of (get_or (wires_in l.self) port []);
  behind : (port : ℕ) → l.port ≤ port → get_or l.beats port idle_beat ≡ idle_beat;
}
