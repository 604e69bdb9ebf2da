use Rattle.std.proofs.Common.{◌+◌, get_or}
use Rattle.std.specs.Prelude.{if◌then◌else◌}
use Rattle.noc_packet.specs.Set.{has_bit}
use Rattle.noc_steps.proofs.WrittenLemmas.{StandsTo, LeavesOthers}
use Rattle.noc_steps.proofs.reached.take_row.Given as goal

abbrev pub invariant-loop-dst : goal.invariant-loop-dst
invariant-loop-dst l = record {
  column : StandsTo (λ t. if has_bit (get_or l.coming t 0) l.input then get_or l.sets (l.first + t) 0 else 0) l.block l.from l.dst;
  others : LeavesOthers l.fn.block l.block l.from l.dst;
}
