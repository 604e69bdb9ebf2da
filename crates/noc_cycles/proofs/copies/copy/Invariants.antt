use Rattle.noc_columns.proofs.PassLemmas.{IsPassed}
use Rattle.noc_cycles.proofs.Common.{word}
use Rattle.noc_cycles.proofs.copies.copy.Given as goal

abbrev pub invariant-loop-i : goal.invariant-loop-i
invariant-loop-i l = IsPassed (λ k. word k l.from) (λ k. word k l.fn.to) (λ k. word k l.to) l.i
