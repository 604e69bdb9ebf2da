use Rattle.std.proofs.Common.{◌≡◌, ◌+◌, ℕ}
use Rattle.noc_cycles.proofs.Common.{has_bit, some_below, word}
use Rattle.noc_cycles.proofs.begins.some_in.Given as goal

abbrev pub invariant-loop-i : goal.invariant-loop-i
invariant-loop-i l = (r : ℕ) → has_bit l.some r ≡ some_below l.i (λ k. has_bit (word (l.first + k) l.words) r)
