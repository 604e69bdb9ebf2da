use Rattle.std.proofs.Common.{◌≡◌, map, take}
use Rattle.noc_engine.specs.declared.exchange.Told.{Told}
use Rattle.noc_workers.proofs.mail.Mail.new.Given as goal

-- there are places for the blocks before this one
abbrev pub invariant-loop-block : goal.invariant-loop-block
invariant-loop-block l = map (λ (one : Told). one.block) l.told.items ≡ take l.block-index l.blocks
