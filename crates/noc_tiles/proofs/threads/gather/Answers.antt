use Rattle.std.proofs.Common.{◌≡◌, ◌∙◌, ◌++◌, ◌∷◌, List, [], ap}
use Rattle.std.specs.List.{flat_map}
use Rattle.std.proofs.lemmas.List.{flat_map_more}
use Rattle.noc_tiles.specs.Partition.{routers_of, wire_rows_of}
use Rattle.noc_tiles.specs.Tiles.{inlets, outlets}
use Rattle.noc_tiles.specs.declared.tile.Tile.{Tile}
use Rattle.noc_tiles.proofs.threads.gather.Goals as goal

-- what one tile more held is behind what those before it held
with_one : {A : Type 0} (held : Tile → List A) (done : List Tile) (tile : Tile) (before after : List A) → before ≡ flat_map held done → after ≡ before ++ held tile
    → after ≡ flat_map held (done ++ tile ∷ [])
with_one held done tile before after so_far more = more ∙ ap (λ xs. xs ++ held tile) so_far ∙ flat_map_more held [] done tile

pub loop-tile-preserved : goal.loop-tile-preserved
loop-tile-preserved c =
    let so_far = c.loop-tile.invariant in
    let more = c.in_ok-added.ensures in
    record {
      routers = with_one routers_of c.loop-tile.yielded c.in-Some.tile _ _ so_far.routers more.routers;
      beats = with_one wire_rows_of c.loop-tile.yielded c.in-Some.tile _ _ so_far.beats more.beats;
      ins = with_one inlets c.loop-tile.yielded c.in-Some.tile _ _ so_far.ins more.ins;
      outs = with_one outlets c.loop-tile.yielded c.in-Some.tile _ _ so_far.outs more.outs;
    }
