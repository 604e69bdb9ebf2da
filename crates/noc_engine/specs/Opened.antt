-- A network before its first cycle.
use Rattle.std.specs.Prelude.{◌≡◌, ℕ, List, length, replicate}
use Rattle.noc_columns.specs.declared.due.TheConstants.{NEVER}
use Rattle.noc_counts.specs.Counts.{AreClear}
use Rattle.noc_cycles.specs.Opened.{AreEmptyWorks, AreOpened}
use Rattle.noc_cycles.specs.Told.{HaveRoom}
use Rattle.noc_cycles.specs.declared.first.First.{First}
use Rattle.noc_cycles.specs.declared.pattern.Pattern.{Pattern}
use Rattle.noc_engine.specs.declared.tile.Tile.{Tile}

-- a tile of all its blocks, so many, of a network of so many packets, in which each router is at its
-- first packet
pub record IsOpenedTile (pattern : Pattern) (firsts : List First) (count packets : ℕ) (tile : Tile)
    : Type 0 where
  pub first : tile.first ≡ 0
  pub blocks : AreOpened pattern firsts count tile.blocks.items
  pub works : AreEmptyWorks count tile.works.items
  pub counts : AreClear count tile.counts.items
  pub notes : HaveRoom count tile.notes.items
  pub left : length tile.left.items ≡ count
  pub arrivals : tile.arrivals.items ≡ replicate packets NEVER
  pub last : tile.last ≡ 0
  pub cycle : tile.cycle ≡ 0
