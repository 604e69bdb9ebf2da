-- A number for each channel, bit by bit: plane i is the set of the channels whose number has bit i.
-- The steps are those of words; what they mean in numbers is proved in src/planes.rt.
use Rattle.std.specs.Prelude.{◌≡◌, ℕ, ◌+◌, ◌*◌, ◌^◌, ◌<◌, List, [], ◌∷◌, length, bit_and, bit_or, bit_xor}
use Rattle.noc_topo.specs.Lists.{one_if}
use Rattle.noc_packet.specs.Set.{has_bit}
use Rattle.noc_sets.specs.Sets.{less}

-- the number of channel x, by planes from the lowest bit on
abbrev pub plane_number : List ℕ → ℕ → ℕ
plane_number [] x = 0
plane_number (plane ∷ planes) x = one_if (has_bit plane x) + 2 * plane_number planes x

-- each plane is a word
abbrev pub ArePlanes : List ℕ → Type 0
ArePlanes [] = Unit {0}
ArePlanes (plane ∷ planes) = (plane < 2 ^ 64) × ArePlanes planes

-- one more at each member of the set
abbrev pub raised_by : List ℕ → ℕ → List ℕ
raised_by [] set = []
raised_by (plane ∷ planes) set = bit_xor plane set ∷ raised_by planes (bit_and set plane)

-- those whose number was too great for the planes, where there is one more at each member of the
-- set
abbrev pub carry_of : List ℕ → ℕ → ℕ
carry_of [] set = set
carry_of (plane ∷ planes) set = carry_of planes (bit_and set plane)

-- one less at each member of the set
abbrev pub lowered_by : List ℕ → ℕ → List ℕ
lowered_by [] set = []
lowered_by (plane ∷ planes) set = bit_xor plane set ∷ lowered_by planes (less set plane)

abbrev pub borrow_of : List ℕ → ℕ → ℕ
borrow_of [] set = set
borrow_of (plane ∷ planes) set = borrow_of planes (less set plane)

-- the channels whose number is not 0, and a set with them
abbrev pub any_from : ℕ → List ℕ → ℕ
any_from any [] = any
any_from any (plane ∷ planes) = any_from (bit_or any plane) planes

-- those whose number is more than 1
abbrev pub more_than_one : List ℕ → ℕ
more_than_one [] = 0
more_than_one (plane ∷ planes) = any_from 0 planes

-- those whose number is not that by other planes, and a set with them
abbrev pub wrong_from : ℕ → List ℕ → List ℕ → ℕ
wrong_from wrong [] others = wrong
wrong_from wrong (plane ∷ planes) [] = wrong
wrong_from wrong (plane ∷ planes) (other ∷ others) =
    wrong_from (bit_or wrong (bit_xor plane other)) planes others

-- these planes give each channel of a router with so many the number n
pub record AreAll (count size n : ℕ) (planes : List ℕ) : Type 0 where
  pub bits : length planes ≡ count
  pub room : n < 2 ^ count
  pub fits : ArePlanes planes
  pub each : (x : ℕ) → x < size → plane_number planes x ≡ n
