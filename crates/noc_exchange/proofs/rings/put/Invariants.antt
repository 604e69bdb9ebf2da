use Rattle.std.proofs.Common.{◌≡◌}
use Rattle.rtrb.specs.Ring.{SameProducer, sent}
use Rattle.noc_exchange.proofs.rings.put.Given as goal

-- the item is not put yet
abbrev pub invariant-loop : goal.invariant-loop
invariant-loop g l = record {
  past : sent l.out ≡ sent l.initial.out;
  ring : SameProducer l.initial.out l.out;
  item : l.item ≡ l.initial.item;
}
