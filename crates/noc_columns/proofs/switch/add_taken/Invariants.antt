use Rattle.std.proofs.Common.{bit_and, bit_or, slice_index}
use Rattle.noc_columns.proofs.PassLemmas.{IsPassed}
use Rattle.noc_columns.proofs.switch.add_taken.Given as goal

abbrev pub invariant-loop-q : goal.invariant-loop-q
invariant-loop-q l = IsPassed (λ k. bit_or (slice_index l.fn.all k) (bit_and (slice_index l.taken k) l.set)) (λ k. slice_index l.fn.all k) (λ k. slice_index l.all k) l.q
