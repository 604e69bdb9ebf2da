use Rattle.noc_route.specs.Listed.{AreNumbered}
use Rattle.std.proofs.Common.{◌≡◌, ◌≤◌, length}
use Rattle.noc_route.proofs.set_list.number_all.Given as goal

abbrev pub invariant-loop-place : goal.invariant-loop-place
invariant-loop-place l = record {
  few : l.count ≤ 256;
  long : length l.kinds ≡ 256;
  numbered : AreNumbered l.sets l.kinds l.numbers l.place l.count;
}
