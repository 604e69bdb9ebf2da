use Rattle.std.proofs.Common.{ℕ, List, ◌≡◌, map, length}
use Rattle.noc_packet.specs.declared.packet.Beat.{Beat}
use Rattle.noc_theory.specs.Halves.{beat_at}
use Rattle.noc_tiles.specs.Ends.{inlet}
use Rattle.noc_tiles.specs.TileStep.{ends_after_beats, with_row, arrival_ports}
use Rattle.noc_tiles.proofs.worker.receive_all.Given as goal

-- a beat came by each end before this one
abbrev pub invariant-loop-one : goal.invariant-loop-one
invariant-loop-one g l = record {
  row : List Beat;
  width : length row ≡ l.one-index;
  ends : map inlet l.one-items ≡ ends_after_beats (map inlet l.initial.one-items) row;
  beats : (r q : ℕ) → beat_at l.beats r q ≡ with_row (beat_at l.initial.beats) (arrival_ports (map inlet l.initial.one-items)) row r q;
  size : length l.beats ≡ length l.initial.beats;
}
