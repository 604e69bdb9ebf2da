use Rattle.std.proofs.Common.{◌≡◌, ◌-◌, ◌≤◌, ℕ, true, length}
use Rattle.std.specs.Prelude.{All, Contains}
use Rattle.noc_engine.specs.Shows.{has_block}
use Rattle.noc_engine.specs.declared.tile.Tile.{Tile}
use Rattle.noc_workers.proofs.cut.filled.Given as goal

abbrev pub invariant-loop-blocks : goal.invariant-loop-blocks
invariant-loop-blocks l = record {
  many : length l.blocks.items ≤ l.many;
  own : (tile : Tile) → All (λ b. has_block tile b ≡ true) l.initial.blocks.items → has_block tile l.block ≡ true → All (λ b. has_block tile b ≡ true) l.blocks.items;
  all : (b : ℕ) → Contains l.initial.blocks.items b → Contains l.blocks.items b;
}

abbrev pub decreases-loop-blocks : goal.decreases-loop-blocks
decreases-loop-blocks l = l.many - length l.blocks.items
