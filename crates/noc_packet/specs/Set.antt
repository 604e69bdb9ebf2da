-- Sets of channel indices, by their bits.
use Rattle.std.specs.Prelude.{◌≡◌, ℕ, ◌<◌, Bool, true, false, ◌&&◌, nat_eq, nat_le, Option, Some, None}
use Rattle.std.specs.Int.{bit_at}

-- whether index k is a member of the set whose bits are these
abbrev pub has_bit : ℕ → ℕ → Bool
has_bit bits k = nat_eq (bit_at bits k) 1

-- whether index k is a member of both sets
abbrev pub in_both : ℕ → ℕ → ℕ → Bool
in_both a b k = has_bit a k && has_bit b k

-- whether index k is a member, and no less than this index
abbrev pub has_from : ℕ → ℕ → ℕ → Bool
has_from from bits k = nat_le from k && has_bit bits k

-- the least index with this property, or None where no index has it
abbrev pub IsLeast : (ℕ → Bool) → Option ℕ → Type 0
IsLeast has None = (k : ℕ) → has k ≡ false
IsLeast has (Some x) = (has x ≡ true) × ((k : ℕ) → k < x → has k ≡ false)
