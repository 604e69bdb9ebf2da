use Rattle.std.proofs.Common.{◌≡◌, ℕ, ◌<◌, None, get_or, length, unwrap_or}
use Rattle.noc_view.specs.View.{idle_beat}
use Rattle.noc_wires.proofs.room.Room.beats_taken.Given as goal

-- the beats before this port are those that were taken
abbrev pub invariant-loop-port : goal.invariant-loop-port
invariant-loop-port l = record {
  count : length l.beats ≡ 6;
  before : (port : ℕ) → port < l.port → get_or l.beats port idle_beat ≡ unwrap_or (get_or l.self.taken port None) idle_beat;
}
