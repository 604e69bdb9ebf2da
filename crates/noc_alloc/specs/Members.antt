-- Sets whose members are below a bound.
use Rattle.std.specs.Prelude.{◌≡◌, ℕ, ◌<◌, true}
use Rattle.noc_packet.specs.Set.{has_bit}

-- each member of the set is below n
abbrev pub MembersAreBelow : ℕ → ℕ → Type 0
MembersAreBelow n set = (k : ℕ) → has_bit set k ≡ true → k < n
