use Rattle.noc_columns.specs.Words.{word}
use Rattle.noc_columns.proofs.PassLemmas.{IsPassed}
use Rattle.noc_columns.proofs.words.clear_first.Given as goal

abbrev pub invariant-loop-i : goal.invariant-loop-i
invariant-loop-i g l = IsPassed (λ k. 0) (λ k. word k l.fn.words) (λ k. word k l.words) l.i
