use Rattle.std.proofs.Common.{◌≡◌, ◌≤◌, ◌^◌}
use Rattle.noc_sets.specs.Gather.{stride}
use Rattle.noc_columns.proofs.places.stride_of.Given as goal

abbrev pub invariant-loop-lower : goal.invariant-loop-lower
invariant-loop-lower l = record {
  is : l.stride ≡ stride l.shape l.lower;
  few : l.stride ≤ 16 ^ l.lower;
}
