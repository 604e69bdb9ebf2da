use Rattle.std.proofs.Common.{◌≡◌, ◌≤◌, length}
use Rattle.std.specs.Prelude.{vec_capacity}
use Rattle.noc_tiles.specs.Rings.{in_slots, out_slots}
use Rattle.noc_tiles.specs.Partition.{IsUncut}
use Rattle.noc_tiles.proofs.PartitionLoopLemmas.{AreTilesOf}
use Rattle.noc_tiles.proofs.partition.partition.Given as goal

-- the workers before this one have their tiles
abbrev pub invariant-loop-worker : goal.invariant-loop-worker
invariant-loop-worker l = record {
  count : length l.tiles.items ≡ l.worker;
  room : l.kept.workers ≤ vec_capacity l.tiles;
  rest : IsUncut l.kept (in_slots l.initial.rest.ins.items) (out_slots l.initial.rest.outs.items) l.worker l.rest;
  tiles : AreTilesOf l.kept (in_slots l.initial.rest.ins.items) (out_slots l.initial.rest.outs.items) l.tiles.items;
}
