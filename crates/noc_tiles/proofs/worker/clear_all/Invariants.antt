use Rattle.std.proofs.Common.{ℕ, ◌≡◌, map, length}
use Rattle.noc_tiles.specs.Ends.{outlet}
use Rattle.noc_tiles.specs.Phases.{IsCleared}
use Rattle.noc_tiles.specs.TileStep.{arrival_ports}
use Rattle.noc_tiles.proofs.worker.clear_all.Given as goal

-- the wires of the ends before this one are idle, and the others as they were
abbrev pub invariant-loop-end : goal.invariant-loop-end
invariant-loop-end l = record {
  size : length l.beats ≡ length l.initial.beats;
  beats : (r q : ℕ) → IsCleared (arrival_ports (map outlet l.ends)) l.initial.beats l.beats l.end-index r q;
}
