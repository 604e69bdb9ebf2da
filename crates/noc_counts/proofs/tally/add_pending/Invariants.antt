use Rattle.noc_counts.specs.Tallies.{carry_over, sum_of}
use Rattle.noc_columns.specs.Words.{word}
use Rattle.noc_columns.proofs.PassLemmas.{IsPassed}
use Rattle.noc_counts.proofs.tally.add_pending.Given as goal

abbrev pub invariant-loop-i : goal.invariant-loop-i
invariant-loop-i l = record {
  bits : IsPassed (λ k. sum_of (word k l.fn.bits) (word k l.pending) (word k l.fn.carry)) (λ k. word k l.fn.bits) (λ k. word k l.bits) l.i;
  carry : IsPassed (λ k. carry_over (word k l.fn.bits) (word k l.pending) (word k l.fn.carry)) (λ k. word k l.fn.carry) (λ k. word k l.carry) l.i;
}
