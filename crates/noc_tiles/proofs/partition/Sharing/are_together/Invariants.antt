use Rattle.std.proofs.Common.{◌≡◌, ℕ, ◌<◌}
use Rattle.std.specs.Prelude.{nat_lt}
use Rattle.noc_topo.specs.Shape.{nodes}
use Rattle.noc_tiles.specs.Rings.{tile_start}
use Rattle.noc_tiles.proofs.partition.Sharing.are_together.Given as goal

-- no tile before this one begins between them
abbrev pub invariant-loop-worker : goal.invariant-loop-worker
invariant-loop-worker l = (w : ℕ) → w < l.worker → nat_lt l.a (tile_start (nodes l.self.shape.now) l.self.workers w) ≡ nat_lt l.b (tile_start (nodes l.self.shape.now) l.self.workers w)
