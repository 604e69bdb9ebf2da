use Rattle.std.proofs.Common.{◌≡◌, ℕ, map, take}
use Rattle.noc_theory.specs.Halves.{beat_at}
use Rattle.noc_tiles.specs.Ends.{outlet}
use Rattle.noc_tiles.specs.TileStep.{ends_after_beats, arrival_ports}
use Rattle.noc_tiles.proofs.worker.put_all.Given as goal

-- a beat went by each end before this one
abbrev pub invariant-loop-one : goal.invariant-loop-one
invariant-loop-one g l =
    map outlet l.one-items
    ≡ ends_after_beats (map outlet l.initial.one-items) (take l.one-index (map (λ (p : ℕ × ℕ). beat_at l.beats p.0 p.1) (arrival_ports (map outlet l.initial.one-items))))
