-- What a run of a tile does.
use Rattle.std.specs.Prelude.{ℕ, Bool, true, false, ◌≡◌, ◌↔◌, ◌+◌, ◌<◌, ◌≤◌, ◌^◌, List, [], ◌∷◌, map, length, get_or, vec_len}
use Rattle.noc_topo.specs.Shape.{nodes, local_port, neighbour}
use Rattle.noc_packet.specs.declared.packet.Beat.{Beat}
use Rattle.noc_route.specs.Routes.{Routes}
use Rattle.noc_view.specs.View.{View, idle_beat}
use Rattle.noc_theory.specs.Halves.{HasItsBeats, beat_at}
use Rattle.noc_tiles.specs.Ends.{End, inlet, outlet}
use Rattle.noc_tiles.specs.TileStep.{Layout, TileState, arrival_ports, is_own, is_from, ends_after_beats, ends_after_rows, steps, after_steps, put_by, after, beats_put}
use Rattle.noc_tiles.specs.declared.tile.Tile.{Tile}
use Rattle.noc_tiles.specs.declared.tile.Outcome.TheVariants.{Whole, Closed, Stopped}

abbrev pub inlets : Tile → List End
inlets t = map inlet t.ins.items

abbrev pub outlets : Tile → List End
outlets t = map outlet t.outs.items

abbrev pub layout_of : Tile → Layout
layout_of t = record {
  first = t.first;
  ins = arrival_ports (inlets t);
  outs = arrival_ports (outlets t);
}

abbrev pub state_of : Tile → TileState
state_of t = record { views = t.routers.items; wires = beat_at t.beats.items }

-- each is a link port of one of so many routers
abbrev pub AreLinkPorts : ℕ → ℕ → List (ℕ × ℕ) → Type 0
AreLinkPorts rows links ps =
    (j : ℕ) → j < length ps → ((get_or ps j (0, 0)).0 < rows) × ((get_or ps j (0, 0)).1 < links)

-- the routers from `first` on are in their order, and `ins` are ports of theirs. `outs` are the
-- ports of all wires that go from them to others, and the wires that arrive at others are idle
pub record PartsFit (relation : Routes) (first : ℕ) (ins outs : List (ℕ × ℕ)) (views : List View)
    (b : List (List Beat)) : Type 0 where
  pub wide : first + length views ≤ nodes relation.grid
  pub count : length b ≡ nodes relation.grid
  pub placed : (i : ℕ) (d : View) → i < length views
      → HasItsBeats relation (first + i) (get_or views i d)
  pub linked : (r q : ℕ) → local_port relation.grid ≤ q → beat_at b r q ≡ idle_beat
  pub idle : (r q : ℕ) → is_own first (length views) r ≡ false → beat_at b r q ≡ idle_beat
  pub within : AreLinkPorts (nodes relation.grid) (local_port relation.grid) ins
  pub own : (j : ℕ) → j < length ins → is_own first (length views) (get_or ins j (0, 0)).0 ≡ true
  pub outs_within : AreLinkPorts (nodes relation.grid) (local_port relation.grid) outs
  pub others : (o : ℕ) → o < length outs
      → is_own first (length views) (get_or outs o (0, 0)).0 ≡ false
  pub leaves : (r q : ℕ) → r < nodes relation.grid → is_own first (length views) r ≡ false
      → is_from first (length views) (neighbour relation.grid r q) ≡ true
      → (o : ℕ) × (o < length outs) × (get_or outs o (0, 0) ≡ (r, q))

-- its parts fit each other and the relation
pub record IsReady (relation : Routes) (t : Tile) : Type 0 where
  pub few_links : local_port relation.grid ≤ 6
  pub parts : PartsFit relation t.first (arrival_ports (inlets t))
      (arrival_ports (outlets t)) t.routers.items t.beats.items

-- what a run leaves alone
pub record IsSameTile (a b : Tile) : Type 0 where
  pub worker : b.worker ≡ a.worker
  pub first : b.first ≡ a.first
  pub start : b.start ≡ a.start
  pub cycles : b.cycles ≡ a.cycles
  pub size : vec_len b.beats ≡ vec_len a.beats
  pub ins : Rattle.noc_tiles.specs.TileStep.names (inlets b)
      ≡ Rattle.noc_tiles.specs.TileStep.names (inlets a)
  pub outs : Rattle.noc_tiles.specs.TileStep.names (outlets b)
      ≡ Rattle.noc_tiles.specs.TileStep.names (outlets a)

-- cycle n, with the beats of a row
pub record Cycles (relation : Routes) (n : ℕ) (a b : Tile) (row : List Beat) : Type 0 where
  pub width : length row ≡ length (inlets a)
  pub views : b.routers.items
      ≡ (after_steps relation (layout_of a) (steps relation (layout_of a) n (state_of a) row)).views
  pub wires : (r q : ℕ) → r < nodes relation.grid
      → beat_at b.beats.items r q
      ≡ (after_steps relation (layout_of a)
      (steps relation (layout_of a) n (state_of a) row)).wires r q
  pub ins : inlets b ≡ ends_after_beats (inlets a) row
  pub outs : outlets b
      ≡ ends_after_beats (outlets a)
      (put_by relation (layout_of a) (steps relation (layout_of a) n (state_of a) row))

-- k cycles, with a row of beats for each
pub record Runs (relation : Routes) (k : ℕ) (a b : Tile) : Type 0 where
  pub rows : List (List Beat)
  pub count : length rows ≡ k
  pub width : (i : ℕ) → i < k → length (get_or rows i []) ≡ length (inlets a)
  pub views : b.routers.items ≡ (after relation (layout_of a) a.start (state_of a) rows).views
  pub wires : (r q : ℕ) → r < nodes relation.grid
      → beat_at b.beats.items r q
      ≡ (after relation (layout_of a) a.start (state_of a) rows).wires r q
  pub ins : inlets b ≡ ends_after_rows (inlets a) rows
  pub outs : outlets b
      ≡ ends_after_rows (outlets a) (beats_put relation (layout_of a) a.start (state_of a) rows)

-- what is known of a gate: whether it is open to every worker in every cycle, and to which worker
-- it is shut in which cycle
pub record Gating : Type 0 where
  pub opens : Bool
  pub shuts : ℕ → ℕ → Bool

-- what is known of a tile that came back
pub record Ended (relation : Routes) (can_stop : Bool) (gate : Gating) (a b : Tile) : Type 0 where
  pub same : IsSameTile a b
  pub whole : (b.outcome ≡ Whole) ↔ (b.done ≡ a.cycles)
  pub ran : b.outcome ≡ Whole → Runs relation a.cycles a b
  pub asked : b.outcome ≡ Whole → (k : ℕ) → k < a.cycles → gate.shuts a.worker (a.start + k) ≡ false
  pub closed : b.outcome ≡ Closed → gate.opens ≡ false
  pub stopped : b.outcome ≡ Stopped → can_stop ≡ true

-- may be run
pub record CanRun (relation : Routes) (t : Tile) : Type 0 where
  pub ready : IsReady relation t
  pub done : t.done ≡ 0
  pub end : t.start + t.cycles < 2 ^ 64

-- tile by tile
abbrev pub AllEnded : Routes → Bool → Gating → List Tile → List Tile → Type 0
AllEnded g s o [] [] = Unit {0}
AllEnded g s o [] (b ∷ bs) = ⊥
AllEnded g s o (a ∷ as') [] = ⊥
AllEnded g s o (a ∷ as') (b ∷ bs) = Ended g s o a b × AllEnded g s o as' bs

abbrev pub AllCanRun : Routes → List Tile → Type 0
AllCanRun g [] = Unit {0}
AllCanRun g (a ∷ as') = CanRun g a × AllCanRun g as'
