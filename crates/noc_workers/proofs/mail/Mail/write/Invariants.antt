use Rattle.std.proofs.Common.{◌≡◌, ℕ, Bool, ◌<◌, Some, length}
use Rattle.std.specs.List.{slice_get}
use Rattle.noc_theory.specs.Network.{Setup}
use Rattle.noc_workers.specs.Mails.{HasHeard}
use Rattle.noc_engine.specs.Tiles.{IsTold}
use Rattle.noc_engine.specs.declared.plan.Plan.{Plan}
use Rattle.noc_engine.specs.declared.tile.Tile.{Tile}
use Rattle.noc_engine.specs.declared.exchange.Told.{Told}
use Rattle.noc_workers.proofs.mail.Mail.write.Given as goal

-- the places before this one are written
abbrev pub invariant-loop-k : goal.invariant-loop-k
invariant-loop-k l = record {
  start : l.self.start ≡ l.fn.self.start;
  places : length l.self.told.items ≡ length l.blocks;
  blocks : (j : ℕ) (one : Told) → j < l.k → slice_get l.self.told.items j ≡ Some one → slice_get l.blocks j ≡ Some one.block;
  are : (net : Setup) (plan : Plan) (n : ℕ) (from : ℕ → Bool) (was : Tile) → HasHeard net plan n from was l.tile
      → (j : ℕ) (one : Told) → j < l.k → slice_get l.self.told.items j ≡ Some one → IsTold net plan n one;
}
