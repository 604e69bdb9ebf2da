-- Tiles that have made all their cycles, and the network again.
use Rattle.std.proofs.Common.{◌≡◌, ℕ, ◌+◌, ◌<◌, ◌≤◌, List, Vec, Global, map, length, vec_len, get_or, ap, sym, ◌∙◌, arith}
use Rattle.std.specs.List.{flat_map}
use Rattle.std.specs.Vec.{with_items}
use Rattle.std.proofs.lemmas.List.{length-map, with_items_is}
use Rattle.noc_topo.specs.Shape.{nodes}
use Rattle.noc_packet.specs.declared.packet.Beat.{Beat}
use Rattle.noc_theory.specs.Halves.{beat_at}
use Rattle.noc_theory.specs.Network.{Setup}
use Rattle.noc_net.specs.Parts.{AreParts, setup_in}
use Rattle.noc_tiles.specs.Rings.{CanEmpty, Empties}
use Rattle.noc_tiles.specs.Ends.{inlet, outlet}
use Rattle.noc_tiles.specs.Tiles.{inlets, outlets}
use Rattle.noc_tiles.specs.Partition.{AreDone, IsKept, IsGathered, wire_rows_of}
use Rattle.noc_tiles.specs.declared.threads.Gathered.{Gathered}
use Rattle.noc_tiles.specs.declared.partition.Kept.{Kept}
use Rattle.noc_tiles.specs.declared.tile.Tile.{Tile}
use Rattle.noc_tiles.proofs.BoundaryLemmas.{AllRuns, all_runs, same_count, vec-length}
use Rattle.noc_tiles.proofs.GatherLemmas.{tile_in, can_empty, can-empty-as, empties-as, fits, rows-length, views-done, wires-done}
use Rattle.noc_tiles.proofs.PartsLemmas.{parts-again}

module _ {f : Kept} {ts : List Tile} (D : AreDone f ts) where
  abbrev net : Setup
  net = setup_in f.parts

  runs : AllRuns net.relation f.cycles D.cut ts
  runs = all_runs net.relation D.stop D.gate f.cycles D.cut ts D.ended (λ t d l. (D.partition.tiles t d l).cycles) D.whole

  first : Tile
  first = tile_in net f.parts.count f.cycles D.ins D.outs D.cut D.partition

  pub fit : (t : ℕ) (d : Tile) → t < length ts → (get_or ts t d).first + length (get_or ts t d).routers.items ≤ length (get_or ts t d).beats.items
  fit t d l =
      let m = same_count net.relation f.cycles D.cut ts runs in
      fits net f.parts.count f.cycles D.ins D.outs D.cut ts D.partition runs first t d (omega arith)

  -- what they held, with the beats in this list
  module _ (all : Gathered) (G : IsGathered all ts) (held : List (List Beat)) (was : held ≡ all.beats.items) where
    rows : length all.beats.items ≡ nodes net.relation.grid
    rows = ap length G.beats ∙ rows-length net f.parts.count f.cycles D.ins D.outs D.cut ts D.partition runs first

    pub can-be-emptied : CanEmpty (length held) (map inlet all.ins.items) (map outlet all.outs.items)
    can-be-emptied =
        can-empty-as (nodes net.relation.grid) (length held) (flat_map inlets ts) (map inlet all.ins.items) (flat_map outlets ts) (map outlet all.outs.items)
        (sym (ap length was ∙ rows)) (sym G.ins) (sym G.outs) (can_empty net f.parts.count f.cycles D.ins D.outs D.cut ts D.partition runs first)

    pub parts-done : IsKept f → (new : List (List Beat)) → Empties (map inlet all.ins.items) (map outlet all.outs.items) (vec_len all.ins) held new
        → AreParts (record f.parts { count = f.parts.count + f.cycles; routers = all.routers; beats = with_items all.beats new })
    parts-done kept new emptied =
        let i : vec_len all.ins ≡ length (flat_map inlets ts) = vec-length all.ins ∙ (sym (length-map all.ins.items inlet) ∙ ap length G.ins) in
        let C =
        empties-as (map inlet all.ins.items) (flat_map inlets ts) (map outlet all.outs.items) (flat_map outlets ts) (vec_len all.ins) (length (flat_map inlets ts)) held
        (flat_map wire_rows_of ts) new G.ins G.outs i (was ∙ G.beats) emptied in
        let now : (with_items all.beats new).items ≡ new = with_items_is all.beats new (emptied.same ∙ (ap length was ∙ sym (vec-length all.beats))) in
        parts-again _ kept.good kept.end (G.routers ∙ views-done net f.parts.count f.cycles D.ins D.outs D.cut ts D.partition runs first C.left)
        (λ s q. ap (λ (b : List (List Beat)). beat_at b s q) now ∙ wires-done net f.parts.count f.cycles D.ins D.outs D.cut ts D.partition runs first C.left new C s q)
        (vec-length all.beats ∙ rows) kept.room

-- the rows of a tile's own routers are there
pub tiles-fit : {f : Kept} (tiles : Vec Tile Global) → AreDone f tiles.items → (t : ℕ) (d : Tile) → t < vec_len tiles
    → (get_or tiles.items t d).first + vec_len (get_or tiles.items t d).routers ≤ vec_len (get_or tiles.items t d).beats
tiles-fit tiles D t d l =
    let n = vec-length tiles in
    let b = get_or tiles.items t d in
    let u = vec-length b.routers in
    let w = vec-length b.beats in
    let h = fit D t d (omega arith) in
    omega arith
