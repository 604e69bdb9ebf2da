use Rattle.std.proofs.Common.{ℕ, Bool, map, take}
use Rattle.noc_theory.specs.Network.{Setup}
use Rattle.noc_workers.specs.Mails.{HasHeard, IsMail, with_blocks}
use Rattle.noc_engine.specs.declared.plan.Plan.{Plan}
use Rattle.noc_engine.specs.declared.tile.Tile.{Tile}
use Rattle.noc_engine.specs.declared.exchange.Told.{Told}
use Rattle.noc_workers.proofs.mail.MailLetterTile.tell.Given as goal

-- it has heard the blocks before this one
abbrev pub invariant-loop-told : goal.invariant-loop-told
invariant-loop-told l = (net : Setup) (plan : Plan) (n : ℕ) (from : ℕ → Bool) (was : Tile) → HasHeard net plan n from was l.fn.tile → IsMail net plan n l.self
    → HasHeard net plan n (with_blocks from (map (λ (one : Told). one.block) (take l.told-index l.self.told.items))) was l.tile
