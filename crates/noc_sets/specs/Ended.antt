-- Which buffers hold the tail of their packet.
use Rattle.std.specs.Prelude.{◌≡◌, ℕ, ◌<◌, Bool, false, List, [], ◌∷◌, ◌+◌, ◌&&◌, not, nat_eq, bit_and, bit_or, if◌then◌else◌}
use Rattle.std.specs.List.{list_any}
use Rattle.noc_packet.specs.Set.{has_bit}
use Rattle.noc_packet.specs.declared.packet.Flit.{Flit}
use Rattle.noc_alloc.specs.Members.{MembersAreBelow}
use Rattle.noc_view.specs.View.{View, size_of, view_buffer}
use Rattle.noc_sets.specs.Planes.{more_than_one}
use Rattle.noc_sets.specs.Sets.{less}

-- g is the flit behind f in its packet
pub record Follows (f g : Flit) : Type 0 where
  pub packet : g.packet ≡ f.packet
  pub index : g.index ≡ f.index + 1
  pub inner : f.last ≡ false

-- these flits are consecutive ones of one packet
abbrev pub AreConsecutive : List Flit → Type 0
AreConsecutive [] = Unit {0}
AreConsecutive (f ∷ []) = Unit {0}
AreConsecutive (f ∷ g ∷ rest) = Follows f g × AreConsecutive (g ∷ rest)

-- whether the tail of a packet is among them
abbrev pub holds_tail : List Flit → Bool
holds_tail flits = list_any (λ (f : Flit). f.last) flits

-- the input channels whose buffer holds the tail of its packet
pub record ShowsEnded (ended : ℕ) (v : View) : Type 0 where
  pub each : (i : ℕ) → i < size_of v.site → has_bit ended i ≡ holds_tail (view_buffer v i)
  pub below : MembersAreBelow (size_of v.site) ended

-- whether the first flit of an input channel that has one is a tail: its buffer holds a tail, and
-- no more than one flit
abbrev pub leads_tail : ℕ → List ℕ → ℕ → Bool
leads_tail ended len i = has_bit ended i && not (has_bit (more_than_one len) i)

-- ---- what a cycle makes of them
-- after the beats are taken
abbrev pub ended_taken : ℕ → ℕ → ℕ
ended_taken ended tails = bit_or ended tails

-- .. and a flit is injected into the channels `went`, one at most, from a source with so many flits
-- left
abbrev pub ended_frozen : ℕ → ℕ → ℕ → ℕ → ℕ
ended_frozen ended tails went left = bit_or (bit_or ended tails) (if nat_eq left 1 then went else 0)

-- the channels from which a tail moves, where these move a flit
abbrev pub lane_released : ℕ → ℕ → List ℕ → ℕ
lane_released moved ended len = less (bit_and moved ended) (more_than_one len)

-- .. and after they have moved
abbrev pub ended_next : ℕ → ℕ → ℕ
ended_next ended released = less ended released
