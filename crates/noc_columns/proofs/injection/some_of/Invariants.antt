use Rattle.std.proofs.Common.{◌≡◌, ◌+◌, ℕ}
use Rattle.noc_packet.specs.Set.{has_bit}
use Rattle.noc_sets.specs.Unions.{some_below}
use Rattle.noc_columns.specs.Words.{word}
use Rattle.noc_columns.proofs.injection.some_of.Given as goal

abbrev pub invariant-loop-v : goal.invariant-loop-v
invariant-loop-v l = (r : ℕ) → has_bit l.some r ≡ some_below l.v (λ k. has_bit (word (l.local.first + k) l.words) r)
