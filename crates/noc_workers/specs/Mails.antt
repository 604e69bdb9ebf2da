-- What tiles of a network send each other in a cycle.
use Rattle.std.specs.Prelude.{◌≡◌, ℕ, Bool, ◌||◌, List, length, map, fold, Some, nat_eq}
use Rattle.std.specs.List.{slice_get}
use Rattle.noc_sets.specs.Cycle.{Router, Turn}
use Rattle.noc_theory.specs.Network.{Setup}
use Rattle.noc_engine.specs.Tiles.{HasRunTile, IsTold}
use Rattle.noc_workers.specs.declared.mail.Mail.{Mail}
use Rattle.noc_engine.specs.declared.plan.Plan.{Plan}
use Rattle.noc_engine.specs.declared.tile.Tile.{Tile}
use Rattle.noc_engine.specs.declared.exchange.Told.{Told}

-- a mail is what its blocks tell in cycle n
abbrev pub IsMail : Setup → Plan → ℕ → Mail → Type 0
IsMail net plan n mail =
    (k : ℕ) (told : Told) → slice_get mail.told.items k ≡ Some told → IsTold net plan n told

-- its blocks
abbrev pub blocks_in : Mail → List ℕ
blocks_in mail = map (λ told. told.block) mail.told.items

-- some blocks, and these besides
abbrev pub with_blocks : (ℕ → Bool) → List ℕ → ℕ → Bool
with_blocks from blocks = fold (λ some block b. some b || nat_eq b block) from blocks

-- a tile, which was this, has run cycle n, and has heard from these blocks
pub record HasHeard (net : Setup) (plan : Plan) (n : ℕ) (from : ℕ → Bool) (was is : Tile)
    : Type 0 where
  pub words : ℕ → Router
  pub turns : ℕ → Turn
  pub ran : HasRunTile net plan n from words turns was is

-- a tile has the blocks that it had
pub record HasSameBlocks (was is : Tile) : Type 0 where
  pub first_is : is.first ≡ was.first
  pub blocks_are : length is.blocks.items ≡ length was.blocks.items
