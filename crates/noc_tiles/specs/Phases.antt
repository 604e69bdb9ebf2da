-- The phases of a tile's cycle. What came is taken. The routers at the edge of the tile finish the
-- cycle, what leaves the tile is sent, and the inner routers finish while it is on its way.
use Rattle.std.specs.Prelude.{ℕ, true, false, ◌≡◌, ◌≢◌, ◌⊎◌, ◌+◌, ◌-◌, ◌<◌, ◌≤◌, List, map, length, get_or, vec_len, Option, Some, None, if◌then◌else◌}
use Rattle.std.specs.List.{All}
use Rattle.noc_topo.specs.Lists.{map_indexed}
use Rattle.noc_topo.specs.Shape.{Grid, nodes, neighbour}
use Rattle.noc_packet.specs.declared.packet.Beat.{Beat}
use Rattle.noc_route.specs.Routes.{Routes}
use Rattle.noc_view.specs.Finish.{view_after_finish}
use Rattle.noc_view.specs.View.{View, IsRelationOf, view_after_takes, idle_beat}
use Rattle.noc_theory.specs.Halves.{IsLinked, beat_at, view_after_puts}
use Rattle.noc_tiles.specs.TileStep.{beats_arriving, ends_after_beats, arrival_ports, is_own, is_from}
use Rattle.noc_tiles.specs.Tiles.{IsSameTile, inlets, outlets, layout_of, state_of}
use Rattle.noc_tiles.specs.declared.tile.Inner.{Inner}
use Rattle.noc_tiles.specs.declared.tile.Tile.{Tile}

-- what a cycle leaves alone, also one that was broken off
pub record KeepsTile (a b : Tile) : Type 0 where
  pub same : IsSameTile a b
  pub count : vec_len b.routers ≡ vec_len a.routers
  pub done : b.done ≡ a.done
  pub outcome : b.outcome ≡ a.outcome

-- the routers from `first` on can take the beats that came: each is one of the relation, and no
-- beat came to others, or by a port without a link
pub record CanTake (relation : Routes) (first : ℕ) (views : List View) (b : List (List Beat))
    : Type 0 where
  pub within : first + length views ≤ length b
  pub routers : All (λ v. IsRelationOf relation v) views
  pub beats : All (IsLinked relation.grid) b
  pub others : (r q : ℕ) → is_own first (length views) r ≡ false → beat_at b r q ≡ idle_beat

-- the routers of a tile have taken what arrived, with a row of beats from other
-- tiles, and no beat is left
pub record TileHasTaken (relation : Routes) (row : List Beat) (a b : Tile) : Type 0 where
  pub width : length row ≡ length (inlets a)
  pub ins : inlets b ≡ ends_after_beats (inlets a) row
  pub views : b.routers.items
      ≡ map_indexed (λ (i : ℕ) (v : View). view_after_takes relation
      (beats_arriving relation (layout_of a) (state_of a) row i) v) a.routers.items
  pub rest : b ≡ record a { routers = b.routers; beats = b.beats; ins = b.ins }
  pub size : length b.beats.items ≡ length a.beats.items
  pub silent : (r q : ℕ) → beat_at b.beats.items r q ≡ idle_beat

-- of `count` routers from `first` on, those between two indices: no wire to one of the ports
-- `outs` begins at one of them
pub record AreInner (grid : Grid) (first count : ℕ) (outs : List (ℕ × ℕ)) (inner : Inner)
    : Type 0 where
  pub order : inner.from ≤ inner.to
  pub within : inner.to ≤ count
  pub none : (o : ℕ) → o < length outs
      → is_from (first + inner.from) (inner.to - inner.from)
      (neighbour grid (get_or outs o (0, 0)).0 (get_or outs o (0, 0)).1) ≡ false

-- a wire whose sender is given, after the routers of a tile from index i to before j have put
-- what is theirs of `sent`
abbrev pub put_from : ℕ → ℕ → ℕ → List (List Beat) → Option (ℕ × ℕ) → Beat → Beat
put_from first i j sent None beat = beat
put_from first i j sent (Some from) beat =
    if is_own (first + i) (j - i) from.0 then beat_at sent (from.0 - first) from.1 else beat

-- what routers that have taken their beats put at the end of cycle n
abbrev pub to_send : Routes → ℕ → List View → List (List Beat)
to_send relation n views = map (λ (v : View). (view_after_finish relation n v).to_put) views

-- a router that has taken its beats can finish a cycle: it is that of its node, and the
-- wires that leave it are idle
pub record RouterCanFinish (relation : Routes) (router : View) (b : List (List Beat)) : Type 0 where
  pub built : IsRelationOf relation router
  pub node : router.site.node < nodes relation.grid
  pub count : length b ≡ nodes relation.grid
  pub idle : (r q port : ℕ) → neighbour relation.grid r q ≡ Some (router.site.node, port)
      → beat_at b r q ≡ idle_beat

-- the routers of a tile from index i to before j can finish a cycle: they are those of their nodes,
-- and the wires that leave them are idle
pub record CanFinish (relation : Routes) (i j : ℕ) (t : Tile) : Type 0 where
  pub order : i ≤ j
  pub within : j ≤ length t.routers.items
  pub wide : t.first + length t.routers.items ≤ nodes relation.grid
  pub count : length t.beats.items ≡ nodes relation.grid
  pub built : (k : ℕ) (d : View) → i ≤ k → k < j
      → IsRelationOf relation (get_or t.routers.items k d)
  pub site : (k : ℕ) (d : View) → i ≤ k → k < j
      → (get_or t.routers.items k d).site.node ≡ t.first + k
  pub idle : (r q : ℕ) → r < nodes relation.grid
      → is_from (t.first + i) (j - i) (neighbour relation.grid r q) ≡ true
      → beat_at t.beats.items r q ≡ idle_beat

-- the routers of a tile from index i to before j have finished cycle n
pub record HaveFinished (relation : Routes) (n : ℕ) (i j : ℕ) (a b : Tile) : Type 0 where
  pub rest : b ≡ record a { plan = b.plan; routers = b.routers; beats = b.beats }
  pub count : length b.routers.items ≡ length a.routers.items
  pub size : length b.beats.items ≡ length a.beats.items
  pub views : (k : ℕ) (d : View) → i ≤ k → k < j
      → get_or b.routers.items k d
      ≡ view_after_puts (view_after_finish relation n (get_or a.routers.items k d))
  pub others : (k : ℕ) (d : View) → (k < i) ⊎ (j ≤ k)
      → get_or b.routers.items k d ≡ get_or a.routers.items k d
  pub wires : (r q : ℕ) → r < nodes relation.grid
      → beat_at b.beats.items r q
      ≡ put_from a.first i j (to_send relation n a.routers.items) (neighbour relation.grid r q)
      (beat_at a.beats.items r q)

-- the wire at this port is idle where it is one of the first k ports, else as it was
abbrev pub IsCleared : List (ℕ × ℕ) → List (List Beat) → List (List Beat) → ℕ → ℕ → ℕ → Type 0
IsCleared ps old new k r q =
    ((o : ℕ) × (o < k) × (get_or ps o (0, 0) ≡ (r, q)) × (beat_at new r q ≡ idle_beat))
    ⊎ (((o : ℕ) → o < k → get_or ps o (0, 0) ≢ (r, q)) × (beat_at new r q ≡ beat_at old r q))

-- the beats that leave a tile are sent, and their wires idle
pub record TileHasSent (a b : Tile) : Type 0 where
  pub rest : b ≡ record a { beats = b.beats; outs = b.outs }
  pub outs : outlets b
      ≡ ends_after_beats (outlets a)
      (map (λ (p : ℕ × ℕ). beat_at a.beats.items p.0 p.1) (arrival_ports (outlets a)))
  pub cleared : (r q : ℕ)
      → IsCleared (arrival_ports (outlets a)) a.beats.items b.beats.items
      (length (arrival_ports (outlets a))) r q
  pub size : length b.beats.items ≡ length a.beats.items
