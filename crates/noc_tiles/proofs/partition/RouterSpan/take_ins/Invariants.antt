use Rattle.std.proofs.Common.{◌≡◌, ℕ, ◌≤◌, ◌*◌, None, get_or, map}
use Rattle.noc_tiles.specs.Ends.{inlet}
use Rattle.noc_tiles.specs.Rings.{AreTakenIn, in_slots}
use Rattle.noc_tiles.proofs.partition.RouterSpan.take_ins.Given as goal

-- the ends before this one are taken
abbrev pub invariant-loop-k : goal.invariant-loop-k
invariant-loop-k l = record {
  low : l.self.first * 6 ≤ l.k;
  taken : AreTakenIn l.self.shape.now l.self.first l.self.count l.k (in_slots l.initial.slots.items) (map inlet l.ins.items);
  rest : (m : ℕ) → l.k ≤ m → get_or (in_slots l.slots.items) m None ≡ get_or (in_slots l.initial.slots.items) m None;
}
