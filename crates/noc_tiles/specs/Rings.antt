-- The rings between tiles: where the tiles begin, the ends of the rings before the tiles have them,
-- and all ends back in one thread.
use Rattle.std.specs.Prelude.{ℕ, true, false, ◌≡◌, ◌≢◌, ◌⊎◌, ◌+◌, ◌*◌, ◌/◌, ◌%◌, ◌<◌, ◌≤◌, nat_lt, List, [], ◌∷◌, ◌++◌, map, length, get_or, Option, Some, None, option_map, is_some, slice_set}
use Rattle.noc_topo.specs.Shape.{Grid, nodes, neighbour}
use Rattle.noc_packet.specs.declared.packet.Beat.{Beat}
use Rattle.noc_theory.specs.Halves.{beat_at}
use Rattle.noc_tiles.specs.Ends.{End, inlet, outlet}
use Rattle.noc_tiles.specs.TileStep.{is_own, is_from, is_inside}
use Rattle.noc_tiles.specs.declared.ends.Inlet.{Inlet}
use Rattle.noc_tiles.specs.declared.ends.Outlet.{Outlet}

-- the first router of a worker's tile, where so many workers share so many routers, and the
-- end of the tile before it
abbrev pub tile_start : ℕ → ℕ → ℕ → ℕ
tile_start nodes workers worker = worker * nodes / workers

-- no tile begins between two routers
abbrev pub AreTogether : ℕ → ℕ → ℕ → ℕ → Type 0
AreTogether nodes workers a b =
    (w : ℕ) → w ≤ workers
    → nat_lt a (tile_start nodes workers w) ≡ nat_lt b (tile_start nodes workers w)

-- some tile does
abbrev pub AreApart : ℕ → ℕ → ℕ → ℕ → Type 0
AreApart nodes workers a b =
    (w : ℕ) × (w ≤ workers)
    × (nat_lt a (tile_start nodes workers w) ≢ nat_lt b (tile_start nodes workers w))

abbrev pub in_slots : List (Option Inlet) → List (Option End)
in_slots slots = map (λ (s : Option Inlet). option_map inlet s) slots

abbrev pub out_slots : List (Option Outlet) → List (Option End)
out_slots slots = map (λ (s : Option Outlet). option_map outlet s) slots

-- the two ends of a fresh ring on the wire that arrives at this port, with its beat, where
-- it comes from another tile
pub record IsSlot (grid : Grid) (workers r q : ℕ) (beat : Beat) (i o : Option End) : Type 0 where
  pub ins : (e : End) → i ≡ Some e → (e.at ≡ (r, q)) × (e.past ≡ [])
  pub outs : (e : End) → o ≡ Some e → (e.at ≡ (r, q)) × (e.past ≡ beat ∷ [])
  pub both : (a b : End) → i ≡ Some a → o ≡ Some b → b.ring ≡ a.ring
  pub apart : (from : ℕ × ℕ) → neighbour grid r q ≡ Some from
      → AreApart (nodes grid) workers r from.0 → (is_some i ≡ true) × (is_some o ≡ true)

-- the two ends of a fresh ring for each port, that of (r, q) at r * 6 + q
pub record AreSlots (grid : Grid) (workers : ℕ) (wires : List (List Beat)) (count : ℕ)
    (I O : List (Option End)) : Type 0 where
  pub ins : length I ≡ count
  pub outs : length O ≡ count
  pub each : (k : ℕ) → k < count
      → IsSlot grid workers (k / 6) (k % 6) (beat_at wires (k / 6) (k % 6)) (get_or I k None)
      (get_or O k None)

-- the slots without what stands at this port
abbrev pub without : {X : Type 0} → Option ℕ → List (Option X) → List (Option X)
without None slots = slots
without (Some k) slots = slice_set slots k None

-- the element of an option
abbrev pub one_of : {X : Type 0} → Option X → List X
one_of None = []
one_of (Some x) = x ∷ []

-- the element with this index of a list of options, as a list
abbrev pub item_at : {X : Type 0} → Option ℕ → List (Option X) → List X
item_at None slots = []
item_at (Some k) slots = one_of (get_or slots k None)

-- port k goes to the port with this number, at none of these routers
pub record GoesOutTo (grid : Grid) (first count k at : ℕ) : Type 0 where
  pub r : ℕ
  pub q : ℕ
  pub to : neighbour grid (k / 6) (k % 6) ≡ Some (r, q)
  pub node : r < nodes grid
  pub port : q < 6
  pub other : is_own first count r ≡ false
  pub is : at ≡ r * 6 + q

-- the ends in `ends` were taken from the slots before k, of the wires that come to
-- these routers from others
pub record AreTakenIn (grid : Grid) (first count k : ℕ) (I : List (Option End)) (ends : List End)
    : Type 0 where
  pub each : (j : ℕ) (e : End) → j < length ends
      → (m : ℕ) × (first * 6 ≤ m) × (m < k)
      × (is_inside first count (neighbour grid (m / 6) (m % 6)) ≡ false)
      × (get_or I m None ≡ Some (get_or ends j e))
  pub covers : (m : ℕ) → first * 6 ≤ m → m < k
      → (is_inside first count (neighbour grid (m / 6) (m % 6)) ≡ true)
      ⊎ ((j : ℕ) × (j < length ends) × ((e : End) → get_or I m None ≡ Some (get_or ends j e)))

-- the ends in `ends` were taken from the slots before k, of the wires that go
-- from these routers to others
pub record AreTakenOut (grid : Grid) (first count k : ℕ) (O : List (Option End)) (ends : List End)
    : Type 0 where
  pub each : (o : ℕ) (e : End) → o < length ends
      → (r : ℕ) × (q : ℕ) × (r < nodes grid) × (q < 6) × (is_own first count r ≡ false)
      × (is_from first count (neighbour grid r q) ≡ true)
      × (get_or O (r * 6 + q) None ≡ Some (get_or ends o e))
  pub covers : (m r q : ℕ) → first * 6 ≤ m → m < k → neighbour grid (m / 6) (m % 6) ≡ Some (r, q)
      → is_own first count r ≡ false
      → (o : ℕ) × (o < length ends)
      × ((e : End) → get_or O (r * 6 + q) None ≡ Some (get_or ends o e))

-- what goes out by port p of router s, from port k on, still has its end
abbrev pub AreLeftOut : Grid → ℕ → List (Option End) → List (Option End) → Type 0
AreLeftOut grid k O now =
    (s p r q : ℕ) → s < nodes grid → p < 6 → neighbour grid s p ≡ Some (r, q) → k ≤ s * 6 + p
    → get_or now (r * 6 + q) None ≡ get_or O (r * 6 + q) None

-- the two ends of one ring, which holds one beat
pub record AreEnds (i o : End) : Type 0 where
  pub ring : o.ring ≡ i.ring
  pub one : length o.past ≡ length i.past + 1

-- each inlet has an outlet of the same port, and those are the two ends of one
-- ring, which holds one beat
pub record CanEmpty (rows : ℕ) (I O : List End) : Type 0 where
  pub placed : (i : ℕ) (d : End) → i < length I
      → ((get_or I i d).at.0 < rows) × ((get_or I i d).at.1 < 6)
  pub found : (i : ℕ) → i < length I
      → (o : ℕ) × (o < length O) × ((d : End) → (get_or O o d).at ≡ (get_or I i d).at)
  pub rings : (i o : ℕ) (d : End) → i < length I → o < length O
      → (get_or O o d).at ≡ (get_or I i d).at → AreEnds (get_or I i d) (get_or O o d)

-- x is the beat that is left in the ring of inlet i
abbrev pub Left : List End → List End → ℕ → Beat → Type 0
Left I O i x =
    (o : ℕ) × (o < length O)
    × ((d : End)
    → ((get_or O o d).at ≡ (get_or I i d).at)
    × ((get_or O o d).past ≡ (get_or I i d).past ++ x ∷ []))

-- the wires of the first n inlets have what is left in their rings, and the others are as they were
pub record Empties (I O : List End) (n : ℕ) (old new : List (List Beat)) : Type 0 where
  pub same : length new ≡ length old
  pub left : (i : ℕ) → i < n → (x : Beat) × Left I O i x
  pub wires : (r q : ℕ)
      → ((i : ℕ) × (i < n) × ((d : End) → (get_or I i d).at ≡ (r, q))
      × Left I O i (beat_at new r q))
      ⊎ (((i : ℕ) (d : End) → i < n → (get_or I i d).at ≢ (r, q))
      × (beat_at new r q ≡ beat_at old r q))
