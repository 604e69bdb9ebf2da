use Rattle.std.proofs.Common.{◌≡◌, ◌<◌, ℕ, None, get_or, false}
use Rattle.noc_steps.specs.Falls.{falls}
use Rattle.noc_rank.proofs.descent.start_in.Given as goal

abbrev pub invariant-loop-index : goal.invariant-loop-index
invariant-loop-index l = (i : ℕ) → i < l.index → falls (get_or l.list.ranks.now i None) (get_or l.least i None) ≡ false
