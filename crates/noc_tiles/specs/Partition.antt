-- All tiles of a network, and the network again.
use Rattle.std.specs.Prelude.{ℕ, Bool, true, false, ◌≡◌, ◌⊎◌, ◌+◌, ◌-◌, ◌*◌, ◌<◌, ◌≤◌, List, [], ◌∷◌, ◌++◌, take, drop, map, length, get_or, Option, Some, None, vec_len, if◌then◌else◌}
use Rattle.std.specs.List.{flat_map}
use Rattle.noc_topo.specs.Shape.{IsGrid, nodes, neighbour}
use Rattle.noc_packet.specs.declared.packet.Beat.{Beat}
use Rattle.noc_view.specs.View.{View, idle_beat}
use Rattle.noc_theory.specs.Good.{IsGoodSetup}
use Rattle.noc_theory.specs.Halves.{beat_at}
use Rattle.noc_theory.specs.Lockstep.{lockstep_at}
use Rattle.noc_theory.specs.Network.{Setup}
use Rattle.noc_net.specs.Parts.{setup_in}
use Rattle.noc_theory.specs.declared.limits.TheConstants.{CYCLE_LIMIT}
use Rattle.noc_tiles.specs.Ends.{End, inlet, outlet}
use Rattle.noc_tiles.specs.TileStep.{arrival_ports, is_from, is_inside, is_own}
use Rattle.noc_tiles.specs.Rings.{AreLeftOut, AreSlots, in_slots, out_slots, tile_start}
use Rattle.noc_tiles.specs.Tiles.{AllEnded, CanRun, Gating, inlets, outlets}
use Rattle.noc_tiles.specs.declared.partition.Kept.{Kept}
use Rattle.noc_tiles.specs.declared.threads.Gathered.{Gathered}
use Rattle.noc_net.specs.declared.workers.TheConstants.{MAX_WORKERS}
use Rattle.noc_tiles.specs.declared.partition.Uncut.{Uncut}
use Rattle.noc_tiles.specs.declared.tile.Tile.{Tile}
use Rattle.noc_tiles.specs.declared.tile.Outcome.TheVariants.{Whole}

abbrev pub routers_of : Tile → List View
routers_of t = t.routers.items

-- the rows of the tile's own routers
abbrev pub wire_rows_of : Tile → List (List Beat)
wire_rows_of t = take (length t.routers.items) (drop t.first t.beats.items)

-- the routers and the wires of all tiles, one tile after another
pub record IsGathered (g : Gathered) (ts : List Tile) : Type 0 where
  pub routers : g.routers.items ≡ flat_map routers_of ts
  pub beats : g.beats.items ≡ flat_map wire_rows_of ts
  pub ins : map inlet g.ins.items ≡ flat_map inlets ts
  pub outs : map outlet g.outs.items ≡ flat_map outlets ts

-- the beat on a wire that arrives at one of `count` routers from `first` on,
-- idle where it is another one
abbrev pub own_beat : ℕ → ℕ → List (List Beat) → ℕ → ℕ → Beat
own_beat first count beats r q = if is_own first count r then beat_at beats r q else idle_beat

-- what one tile held is behind what was gathered before
pub record AddsTile (t : Tile) (before after : Gathered) : Type 0 where
  pub routers : after.routers.items ≡ before.routers.items ++ routers_of t
  pub beats : after.beats.items ≡ before.beats.items ++ wire_rows_of t
  pub ins : map inlet after.ins.items ≡ map inlet before.ins.items ++ inlets t
  pub outs : map outlet after.outs.items ≡ map outlet before.outs.items ++ outlets t

-- every tile has made its cycles
abbrev pub AllWhole : List Tile → Type 0
AllWhole ts = (t : ℕ) (d : Tile) → t < length ts → (get_or ts t d).outcome ≡ Whole

-- a port by one number
abbrev pub index_of : ℕ × ℕ → ℕ
index_of p = p.0 * 6 + p.1

-- the two ends of a fresh ring, with the beat in flight in it
pub record IsWire (net : Setup) (n : ℕ) (i o : End) : Type 0 where
  pub ring : o.ring ≡ i.ring
  pub fresh : i.past ≡ []
  pub beat : o.past ≡ beat_at (lockstep_at net n).wires i.at.0 i.at.1 ∷ []

-- the ends that stand for one port are those of one ring
abbrev pub AreWires : Setup → ℕ → List (Option End) → List (Option End) → Type 0
AreWires net n I O =
    (k : ℕ) (i o : End) → get_or I k None ≡ Some i → get_or O k None ≡ Some o → IsWire net n i o

-- a tile of the network at count n, to run k cycles, with ends from I and O
pub record IsTile (net : Setup) (n k : ℕ) (I O : List (Option End)) (t : Tile) : Type 0 where
  pub can : CanRun net.relation t
  pub start : t.start ≡ n
  pub cycles : t.cycles ≡ k
  pub wires : (c q : ℕ) → c < length t.routers.items
      → is_inside t.first (length t.routers.items) (neighbour net.relation.grid (t.first + c) q)
      ≡ true
      → beat_at t.beats.items (t.first + c) q ≡ beat_at (lockstep_at net n).wires (t.first + c) q
  pub covers : (c q : ℕ) → c < length t.routers.items
      → is_inside t.first (length t.routers.items) (neighbour net.relation.grid (t.first + c) q)
      ≡ true
      ⊎ ((j : ℕ) × (j < length (arrival_ports (inlets t)))
      × (get_or (arrival_ports (inlets t)) j (0, 0) ≡ (t.first + c, q)))
  pub crossing : (j : ℕ) → j < length (arrival_ports (inlets t))
      → is_inside t.first (length t.routers.items)
      (neighbour net.relation.grid (get_or (arrival_ports (inlets t)) j (0, 0)).0
      (get_or (arrival_ports (inlets t)) j (0, 0)).1) ≡ false
  pub from : (o : ℕ) → o < length (arrival_ports (outlets t))
      → is_from t.first (length t.routers.items)
      (neighbour net.relation.grid (get_or (arrival_ports (outlets t)) o (0, 0)).0
      (get_or (arrival_ports (outlets t)) o (0, 0)).1) ≡ true
  pub ins : (j : ℕ) (e : End) → j < length (inlets t)
      → get_or I (index_of (get_or (inlets t) j e).at) None ≡ Some (get_or (inlets t) j e)
  pub outs : (o : ℕ) (e : End) → o < length (outlets t)
      → get_or O (index_of (get_or (outlets t) o e).at) None ≡ Some (get_or (outlets t) o e)

-- tiles that are cut from the network at count n, to run k cycles, with a ring on each
-- wire between two of them
pub record IsPartition (net : Setup) (n k : ℕ) (I O : List (Option End)) (ts : List Tile)
    : Type 0 where
  pub grid : IsGrid net.relation.grid
  pub tiles : (t : ℕ) (d : Tile) → t < length ts → IsTile net n k I O (get_or ts t d)
  pub firsts : (t : ℕ) (d : Tile) → t < length ts
      → (get_or ts t d).first ≡ length (flat_map routers_of (take t ts))
  pub views : flat_map routers_of ts ≡ (lockstep_at net n).views
  pub rings : AreWires net n I O

-- as many tiles as workers, one for each in turn
pub record AreNumbered (workers : ℕ) (ts : List Tile) : Type 0 where
  pub count : length ts ≡ workers
  pub worker : (t : ℕ) (d : Tile) → t < length ts → (get_or ts t d).worker ≡ t

-- the tiles of all workers, cut from the network
pub record AreCut (kept : Kept) (ts : List Tile) : Type 0 where
  pub ins : List (Option End)
  pub outs : List (Option End)
  pub partition : IsPartition (setup_in kept.parts) kept.parts.count kept.cycles ins outs ts
  pub numbered : AreNumbered kept.workers ts

-- the ends of the rings of the routers from `first` on are still in their slots: I0 and O0 are the
-- slots when all were there
pub record AreUnassigned (net : Setup) (workers first : ℕ) (B : List (List Beat))
    (I0 O0 I O : List (Option End)) : Type 0 where
  pub slots : AreSlots net.relation.grid workers B (nodes net.relation.grid * 6) I0 O0
  pub left_in : (m : ℕ) → first * 6 ≤ m → get_or I m None ≡ get_or I0 m None
  pub left_out : AreLeftOut net.relation.grid (first * 6) O0 O

-- the beats are those in flight
abbrev pub InFlight : Setup → ℕ → List (List Beat) → Type 0
InFlight net n B = (r q : ℕ) → beat_at B r q ≡ beat_at (lockstep_at net n).wires r q

-- what is kept of a network that can be cut into tiles: the setup is good, and the beats are those
-- in flight
pub record IsKept (kept : Kept) : Type 0 where
  pub good : IsGoodSetup (setup_in kept.parts)
  pub some : 0 < kept.workers
  pub few : kept.workers ≤ MAX_WORKERS
  pub size : length kept.parts.beats.items ≡ nodes kept.parts.relation.grid
  pub flight : InFlight (setup_in kept.parts) kept.parts.count kept.parts.beats.items
  pub room : vec_len kept.parts.room ≡ nodes kept.parts.relation.grid
  pub end : kept.parts.count + kept.cycles ≤ CYCLE_LIMIT

-- the first router of a worker's tile
abbrev pub first_of : Kept → ℕ → ℕ
first_of kept worker = tile_start (nodes kept.parts.relation.grid) kept.workers worker

-- the routers that the network has at its count
abbrev pub views_of : Kept → List View
views_of kept = (lockstep_at (setup_in kept.parts) kept.parts.count).views

-- these are its routers, and it can be cut into tiles
pub record IsToCut (kept : Kept) (routers : List View) : Type 0 where
  pub can : IsKept kept
  pub views : routers ≡ views_of kept

-- what is left when the workers before this one have their tiles: I0 and O0 are the slots
-- when all ends were there
pub record IsUncut (kept : Kept) (I0 O0 : List (Option End)) (worker : ℕ) (rest : Uncut)
    : Type 0 where
  pub first : rest.first ≡ first_of kept worker
  pub routers : rest.routers.items ≡ drop rest.first (views_of kept)
  pub unassigned : AreUnassigned (setup_in kept.parts) kept.workers rest.first
      kept.parts.beats.items I0 O0 (in_slots rest.ins.items) (out_slots rest.outs.items)

-- the tile of this worker
pub record IsTileOf (kept : Kept) (I0 O0 : List (Option End)) (w : ℕ) (t : Tile) : Type 0 where
  pub tile : IsTile (setup_in kept.parts) kept.parts.count kept.cycles I0 O0 t
  pub worker : t.worker ≡ w
  pub first : t.first ≡ first_of kept w
  pub routers : t.routers.items
      ≡ take (first_of kept (w + 1) - first_of kept w) (drop (first_of kept w) (views_of kept))

-- tiles that have made all their cycles, each of them from one that was cut from the network
pub record AreDone (kept : Kept) (ts : List Tile) : Type 0 where
  pub ins : List (Option End)
  pub outs : List (Option End)
  pub cut : List Tile
  pub partition : IsPartition (setup_in kept.parts) kept.parts.count kept.cycles ins outs cut
  pub stop : Bool
  pub gate : Gating
  pub ended : AllEnded kept.parts.relation stop gate cut ts
  pub whole : AllWhole ts
