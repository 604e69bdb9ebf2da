use Rattle.std.proofs.Common.{ℕ, ◌≡◌, ◌<◌, get_or}
use Rattle.noc_tiles.specs.declared.tile.Tile.{Tile}
use Rattle.noc_tiles.specs.declared.tile.Outcome.TheVariants.{Whole}
use Rattle.noc_tiles.proofs.threads.all_whole.Given as goal

abbrev pub invariant-loop-tile : goal.invariant-loop-tile
invariant-loop-tile l = (k : ℕ) (d : Tile) → k < l.tile-index → (get_or l.tiles k d).outcome ≡ Whole
