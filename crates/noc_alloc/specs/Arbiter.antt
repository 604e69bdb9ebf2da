-- Round-robin arbiters.
use Rattle.std.specs.Prelude.{ℕ, ◌+◌, ◌-◌, ◌%◌, ◌||◌, Bool, List, map, filter, Option, Some, None, nat_le, nat_lt, slice_index_or, if◌then◌else◌}
use Rattle.noc_topo.specs.Lists.{below, least_by}

-- an arbiter: how many requesters it is over, and the one that comes first
pub record RoundRobin : Type 0 where
  pub size : ℕ
  pub pointer : ℕ

-- how far x stands behind the pointer, (x - pointer) mod size
abbrev pub distance_in_turn : ℕ → ℕ → ℕ → ℕ
distance_in_turn size pointer x = (x + (size - pointer)) % size

-- of the requesters below the size that ask, the one that stands least far behind the pointer
unfoldable pub first_in_turn : ℕ → ℕ → (ℕ → Bool) → Option ℕ
first_in_turn size pointer asks =
    least_by (distance_in_turn size pointer) (filter asks (below size))

-- of the one that came first so far, if any, and a later number, the one that comes first
abbrev pub earlier : ℕ → Option ℕ → ℕ → ℕ
earlier pointer None next = next
earlier pointer (Some held) next = if nat_le pointer held || nat_lt next pointer then held else next

-- a pointer goes to one past the winner, modulo the size, and stays where there is no winner
abbrev pub pointer_after : ℕ → ℕ → Option ℕ → ℕ
pointer_after size pointer None = pointer
pointer_after size pointer (Some winner) = (winner + 1) % size

-- an arbiter after its winner, if any
abbrev pub arbiter_after : RoundRobin → Option ℕ → RoundRobin
arbiter_after t winner = record { size = t.size; pointer = pointer_after t.size t.pointer winner }

-- the pointers of some arbiters
abbrev pub pointers_of : List RoundRobin → List ℕ
pointers_of arbiters = map (λ (t : RoundRobin). t.pointer) arbiters

-- the arbiter with this index
abbrev pub arbiter_at : List RoundRobin → ℕ → RoundRobin
arbiter_at arbiters i = slice_index_or arbiters i (record { size = 0; pointer = 0 })
