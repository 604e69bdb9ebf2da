use Rattle.std.proofs.Common.{◌≡◌, ℕ, slice_index}
use Rattle.noc_packet.specs.Set.{has_bit}
use Rattle.noc_sets.specs.Unions.{some_below}
use Rattle.noc_columns.proofs.switch.any_of.Given as goal

abbrev pub invariant-loop-p : goal.invariant-loop-p
invariant-loop-p l = (r : ℕ) → has_bit l.any r ≡ some_below l.p (λ p. has_bit (slice_index l.sets p) r)
