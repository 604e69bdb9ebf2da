use Rattle.std.proofs.Common.{◌+◌, bit_and, bit_or, slice_index}
use Rattle.noc_columns.specs.Words.{word}
use Rattle.noc_columns.proofs.PassLemmas.{IsPassed}
use Rattle.noc_columns.proofs.picks.join_both.Given as goal

abbrev pub invariant-loop-j : goal.invariant-loop-j
invariant-loop-j l = IsPassed (λ k. bit_or (slice_index l.fn.any k) (bit_and (word (l.at + k) l.first) (word (l.at + k) l.second))) (λ k. slice_index l.fn.any k) (λ k. slice_index l.any k) l.j
