use Rattle.noc_counts.specs.Tallies.{with_four}
use Rattle.noc_columns.specs.Words.{word}
use Rattle.noc_columns.proofs.PassLemmas.{IsPassed}
use Rattle.noc_counts.proofs.tally.add_four.Given as goal

abbrev pub invariant-loop-i : goal.invariant-loop-i
invariant-loop-i l = record {
  ones : IsPassed (λ k. (with_four (word k l.fn.ones) (word k l.fn.twos) (word k l.sets.first.now) (word k l.sets.second.now) (word k l.sets.third.now) (word k l.sets.fourth.now)).ones) (λ k. word k l.fn.ones) (λ k. word k l.ones) l.i;
  twos : IsPassed (λ k. (with_four (word k l.fn.ones) (word k l.fn.twos) (word k l.sets.first.now) (word k l.sets.second.now) (word k l.sets.third.now) (word k l.sets.fourth.now)).twos) (λ k. word k l.fn.twos) (λ k. word k l.twos) l.i;
  carry : IsPassed (λ k. (with_four (word k l.fn.ones) (word k l.fn.twos) (word k l.sets.first.now) (word k l.sets.second.now) (word k l.sets.third.now) (word k l.sets.fourth.now)).carry) (λ k. word k l.fn.carry) (λ k. word k l.carry) l.i;
}
