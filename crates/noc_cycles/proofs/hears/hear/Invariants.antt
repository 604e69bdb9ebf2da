use Rattle.std.proofs.Common.{◌≡◌, ◌+◌, ℕ, Some, take}
use Rattle.std.specs.Prelude.{slice_get}
use Rattle.noc_cycles.proofs.Common.{Block}
use Rattle.noc_cycles.specs.Told.{HasHeard}
use Rattle.noc_cycles.proofs.hears.hear.Given as goal

abbrev pub invariant-loop-one : goal.invariant-loop-one
invariant-loop-one l = (b : ℕ) (old new : Block) → slice_get l.fn.blocks b ≡ Some old → slice_get l.blocks b ≡ Some new → HasHeard (take l.one-index l.notes) (l.first + b) old new
