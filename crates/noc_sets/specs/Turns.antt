-- Round-robin choices, where a pointer is kept as the set of what stands at or after it.
use Rattle.std.specs.Prelude.{◌≡◌, ◌⊎◌, ℕ, ◌+◌, ◌*◌, ◌%◌, ◌^◌, ◌<◌, true, false, nat_eq, nat_le, if◌then◌else◌, bit_and}
use Rattle.noc_topo.specs.Lists.{is_some_of}
use Rattle.noc_packet.specs.Set.{has_bit}
use Rattle.noc_alloc.specs.Arbiter.{first_in_turn}
use Rattle.noc_sets.specs.Sets.{lowest}

-- the requests at or after the pointer, or where there are none all
abbrev pub in_turn : ℕ → ℕ → ℕ
in_turn requests mask = if nat_eq (bit_and requests mask) 0 then requests else bit_and requests mask

-- the one that comes first
abbrev pub first_bit : ℕ → ℕ → ℕ
first_bit requests mask = lowest (in_turn requests mask)

-- of the `width` channels of port p these are at or after the pointer; where that is 0, it may also
-- have none
abbrev pub ShowsPointer : ℕ → ℕ → ℕ → ℕ → Type 0
ShowsPointer width word p pointer =
    ((c : ℕ) → c < width → has_bit word (p * width + c) ≡ nat_le pointer c)
    ⊎ ((pointer ≡ 0) × ((c : ℕ) → c < width → has_bit word (p * width + c) ≡ false))

-- of the ready channels of each port one is picked, the first from the pointer on and around
pub record ArePicked (vcs ports ready ahead picked : ℕ) : Type 0 where
  pub among : (k : ℕ) → has_bit picked k ≡ true → has_bit ready k ≡ true
  pub first : (p pointer c : ℕ) → p < ports → pointer < vcs → ShowsPointer vcs ahead p pointer
      → c < vcs
      → has_bit picked (p * vcs + c)
      ≡ is_some_of (first_in_turn vcs pointer (λ d. has_bit ready (p * vcs + d))) c

-- the pointer of each port of which a channel has moved is past that channel, and the others are
-- where they were
pub record ArePast (vcs ports before moved after : ℕ) : Type 0 where
  pub moves : (p d : ℕ) → p < ports → d < vcs
      → ((c : ℕ) → c < vcs → has_bit moved (p * vcs + c) ≡ nat_eq d c)
      → ShowsPointer vcs after p ((d + 1) % vcs)
  pub stays : (p pointer : ℕ) → p < ports
      → ((c : ℕ) → c < vcs → has_bit moved (p * vcs + c) ≡ false)
      → ShowsPointer vcs before p pointer → ShowsPointer vcs after p pointer
  pub fits : after < 2 ^ 64
