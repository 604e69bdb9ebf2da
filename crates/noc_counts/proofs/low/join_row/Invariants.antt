use Rattle.std.proofs.Common.{◌+◌, bit_or}
use Rattle.noc_columns.specs.Words.{word}
use Rattle.noc_columns.proofs.PassLemmas.{IsPassed}
use Rattle.noc_counts.proofs.low.join_row.Given as goal

abbrev pub invariant-loop-k : goal.invariant-loop-k
invariant-loop-k l = IsPassed (λ k. bit_or (word k l.fn.some) (word (l.first + k) l.row)) (λ k. word k l.fn.some) (λ k. word k l.some) l.k
