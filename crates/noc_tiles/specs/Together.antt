-- Runs of tiles that fit together: on each wire between two tiles the one
-- received what the other put.
use Rattle.std.specs.Prelude.{◌≡◌, ◌⊎◌, ℕ, zero, suc, ◌+◌, ◌<◌, ◌≤◌, true, List, [], length, get_or, take}
use Rattle.noc_topo.specs.Shape.{neighbour, nodes}
use Rattle.noc_packet.specs.declared.packet.Beat.{Beat}
use Rattle.noc_view.specs.View.{View, idle_beat}
use Rattle.noc_theory.specs.Halves.{beat_at}
use Rattle.noc_theory.specs.Lockstep.{lockstep_at}
use Rattle.noc_theory.specs.Network.{Setup}
use Rattle.noc_tiles.specs.TileStep.{Layout, TileState, is_from, is_inside, steps, put_by, after}

-- a run of a tile: its layout, its state at the start, and the rows of beats that it received
pub record Trace : Type 0 where
  pub layout : Layout
  pub state : TileState
  pub rows : List (List Beat)

module _ (net : Setup) (n : ℕ) where
  abbrev pub tile_at : Trace → ℕ → TileState
  tile_at t i = after net.relation t.layout n t.state (take i t.rows)

  abbrev pub trace_steps_at : Trace → ℕ → List (View × List Beat)
  trace_steps_at t i = steps net.relation t.layout (n + i) (tile_at t i) (get_or t.rows i [])

  abbrev pub put_at : Trace → ℕ → List Beat
  put_at t i = put_by net.relation t.layout (trace_steps_at t i)

  -- the beat of the lockstep run on a wire, at this count
  abbrev pub in_flight : ℕ → ℕ → ℕ → Beat
  in_flight i r q = beat_at (lockstep_at net i).wires r q

  -- the beat that a wire brings in cycle i: first w, and then what is put at o
  abbrev pub beat_carried : Beat → Trace → ℕ → ℕ → Beat
  beat_carried w t o zero = w
  beat_carried w t o (suc i) = get_or (put_at t i) o idle_beat

  -- no other tile sends on the wire that arrives at port q of router c of the tile
  abbrev pub IsInner : Trace → ℕ → ℕ → Type 0
  IsInner t c q =
      is_inside t.layout.first (length t.state.views)
      (neighbour net.relation.grid (t.layout.first + c) q) ≡ true

  -- the state of the tile is that of the lockstep run, after i cycles
  pub record Agrees (t : Trace) (i : ℕ) : Type 0 where
    pub many : length (tile_at t i).views ≡ length t.state.views
    pub views : (c : ℕ) (d : View) → c < length t.state.views
        → get_or (tile_at t i).views c d
        ≡ get_or (lockstep_at net (n + i)).views (t.layout.first + c) d
    pub wires : (c q : ℕ) → c < length t.state.views → IsInner t c q
        → (tile_at t i).wires (t.layout.first + c) q ≡ in_flight (n + i) (t.layout.first + c) q

  -- what it puts in its cycle i is in flight at the next count
  abbrev pub PutsInFlight : Trace → ℕ → Type 0
  PutsInFlight t i =
      (o : ℕ) → o < length t.layout.outs
      → get_or (put_at t i) o idle_beat
      ≡ in_flight (n + suc i) (get_or t.layout.outs o (0, 0)).0 (get_or t.layout.outs o (0, 0)).1

  -- m tiles of the network at count n, that ran k cycles
  pub record TilesRan (k m : ℕ) (T : ℕ → Trace) : Type 0 where
    pub within : (t : ℕ) → t < m
        → (T t).layout.first + length (T t).state.views ≤ nodes net.relation.grid
    pub views : (t c : ℕ) (d : View) → t < m → c < length (T t).state.views
        → get_or (T t).state.views c d ≡ get_or (lockstep_at net n).views ((T t).layout.first + c) d
    pub wires : (t c q : ℕ) → t < m → c < length (T t).state.views → IsInner (T t) c q
        → (T t).state.wires ((T t).layout.first + c) q ≡ in_flight n ((T t).layout.first + c) q
    pub outs : (t o : ℕ) → t < m → o < length (T t).layout.outs
        → ((get_or (T t).layout.outs o (0, 0)).0 < nodes net.relation.grid)
        × (is_from (T t).layout.first (length (T t).state.views)
        (neighbour net.relation.grid (get_or (T t).layout.outs o (0, 0)).0
        (get_or (T t).layout.outs o (0, 0)).1) ≡ true)
    pub covers : (t c q : ℕ) → t < m → c < length (T t).state.views
        → IsInner (T t) c q
        ⊎ ((j : ℕ) × (j < length (T t).layout.ins)
        × (get_or (T t).layout.ins j (0, 0) ≡ ((T t).layout.first + c, q)))
    pub count : (t : ℕ) → t < m → length (T t).rows ≡ k
    pub width : (t i : ℕ) → t < m → i < k
        → length (get_or (T t).rows i []) ≡ length (T t).layout.ins
    pub wired : (t j : ℕ) → t < m → j < length (T t).layout.ins
        → (u : ℕ) × (o : ℕ) × (u < m) × (o < length (T u).layout.outs)
        × (get_or (T u).layout.outs o (0, 0) ≡ get_or (T t).layout.ins j (0, 0))
        × ((i : ℕ) → i < k
        → get_or (get_or (T t).rows i []) j idle_beat
        ≡ beat_carried
        (in_flight n (get_or (T t).layout.ins j (0, 0)).0 (get_or (T t).layout.ins j (0, 0)).1)
        (T u) o i)
