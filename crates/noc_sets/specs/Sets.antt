-- Words as sets of channels: operations on them that do not ask how many bits a word has.
use Rattle.std.specs.Prelude.{ℕ, ◌-◌, ◌*◌, ◌/◌, ◌^◌, Bool, true, false, not, nat_eq, bit_and, bit_xor, if◌then◌else◌}
use Rattle.std.specs.Int.{trailing_zeros, w64}

-- whether just one of two is true
abbrev pub differ : Bool → Bool → Bool
differ true b = not b
differ false b = b

-- the members of a set that are not in another
abbrev pub less : ℕ → ℕ → ℕ
less a b = bit_xor a (bit_and a b)

-- the least member alone
abbrev pub lowest : ℕ → ℕ
lowest a = less a (a - 1)

-- which member is the least, of a set with one
abbrev pub least : ℕ → ℕ
least a = trailing_zeros w64 a

-- each member is a channel n further on, or n less far
abbrev pub up_by : ℕ → ℕ → ℕ
up_by a n = a * 2 ^ n

abbrev pub down_by : ℕ → ℕ → ℕ
down_by a n = a / 2 ^ n

-- what the one member of a set has, 0 where it has none
abbrev pub of_one : ℕ → (ℕ → ℕ) → ℕ
of_one set f = if nat_eq set 0 then 0 else f (least set)
