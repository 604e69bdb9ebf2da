use Rattle.std.proofs.Common.{◌≤◌, ◌*◌, map}
use Rattle.noc_tiles.specs.Ends.{outlet}
use Rattle.noc_tiles.specs.Rings.{AreLeftOut, AreTakenOut, out_slots}
use Rattle.noc_tiles.proofs.partition.RouterSpan.take_outs.Given as goal

-- the ends before this one are taken
abbrev pub invariant-loop-k : goal.invariant-loop-k
invariant-loop-k l = record {
  low : l.self.first * 6 ≤ l.k;
  taken : AreTakenOut l.self.shape.now l.self.first l.self.count l.k (out_slots l.initial.slots.items) (map outlet l.outs.items);
  rest : AreLeftOut l.self.shape.now l.k (out_slots l.initial.slots.items) (out_slots l.slots.items);
}
