use Rattle.std.proofs.Common.{◌≡◌}
use Rattle.rtrb.specs.Ring.{SameConsumer, received}
use Rattle.noc_exchange.proofs.rings.arrived.Given as goal

-- no item has come
abbrev pub invariant-loop : goal.invariant-loop
invariant-loop g l = record {
  past : received l.back ≡ received l.initial.back;
  ring : SameConsumer l.initial.back l.back;
}
