use Rattle.std.proofs.Common.{◌≡◌, ◌≤◌, length, vec_capacity}
use Rattle.noc_engine.proofs.exchange.nothing_left.Given as goal

abbrev pub invariant-loop : goal.invariant-loop
invariant-loop l = record {
  long : length l.left.items ≡ l.counter;
  room : l.count ≤ vec_capacity l.left;
}
