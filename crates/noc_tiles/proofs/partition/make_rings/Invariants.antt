use Rattle.std.proofs.Common.{◌≤◌}
use Rattle.std.specs.Prelude.{vec_capacity}
use Rattle.noc_tiles.specs.Rings.{AreSlots, in_slots, out_slots}
use Rattle.noc_tiles.proofs.partition.make_rings.Given as goal

-- the rings before this one are made, and there is room for all
abbrev pub invariant-loop-k : goal.invariant-loop-k
invariant-loop-k l = record {
  slots : AreSlots l.sharing.shape.now l.sharing.workers l.beats l.k (in_slots l.ins.items) (out_slots l.outs.items);
  room_in : l.count ≤ vec_capacity l.ins;
  room_out : l.count ≤ vec_capacity l.outs;
}
