use Rattle.std.proofs.Common.{◌≡◌, ◌+◌, ℕ, false, Some}
use Rattle.std.specs.Prelude.{slice_get}
use Rattle.noc_sets.specs.Cycle.{Router, Turn}
use Rattle.noc_theory.specs.Network.{Setup}
use Rattle.noc_counts.specs.declared.counts.Counts.{Counts}
use Rattle.noc_cycles.specs.declared.block.Block.{Block}
use Rattle.noc_engine.specs.Tiles.{HasRunBlock, HasRunTile}
use Rattle.noc_engine.specs.declared.plan.Plan.{Plan}
use Rattle.noc_engine.specs.declared.tile.Tile.{Tile}
use Rattle.noc_engine.proofs.HeardLemmas.{own_below}
use Rattle.noc_engine.proofs.tile.Tile.hear_own.Given as goal

abbrev pub invariant-loop-number : goal.invariant-loop-number
invariant-loop-number l =
    (net : Setup) (plan : Plan) (n : ℕ) (words : ℕ → Router) (turns : ℕ → Turn) (was : Tile) → HasRunTile net plan n (λ b. false) words turns was l.fn.self
    → (b : ℕ) (block : Block) (counts : Counts) → slice_get l.blocks b ≡ Some block → slice_get l.fn.self.counts.items b ≡ Some counts
    → HasRunBlock net plan n (l.fn.self.first + b) (own_below l.fn.self l.number) words turns block counts
