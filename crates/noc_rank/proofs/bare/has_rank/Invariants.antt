use Rattle.std.proofs.Common.{ℕ, ◌<◌}
use Rattle.noc_rank.specs.NoEscape.{IsRankedIn}
use Rattle.noc_rank.proofs.bare.has_rank.Given as goal

abbrev pub invariant-loop-index : goal.invariant-loop-index
invariant-loop-index l = (i : ℕ) → i < l.index → IsRankedIn l.ranked.ranks.now l.router l.set i → ⊥
