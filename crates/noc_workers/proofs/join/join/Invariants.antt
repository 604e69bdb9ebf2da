use Rattle.std.proofs.Common.{◌≡◌, ◌+◌, ℕ, length}
use Rattle.noc_theory.specs.Network.{Setup}
use Rattle.noc_workers.specs.Cuts.{AllShow}
use Rattle.noc_engine.specs.Tiles.{Shows}
use Rattle.noc_workers.proofs.join.join.Given as goal

-- the tile of those so far, and the others behind it
abbrev pub invariant-loop-workers : goal.invariant-loop-workers
invariant-loop-workers l =
    (net : Setup) (n from to : ℕ) → AllShow net l.plan n from to l.fn.workers.items
    → (l.tile.first ≡ from) × Shows net l.plan n l.tile × AllShow net l.plan n (from + length l.tile.blocks.items) to l.workers.items

abbrev pub decreases-loop-workers : goal.decreases-loop-workers
decreases-loop-workers l = length l.workers.items
