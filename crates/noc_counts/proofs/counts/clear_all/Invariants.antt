use Rattle.std.proofs.Common.{◌≡◌, ℕ, ◌<◌}
use Rattle.noc_counts.specs.Counted.{count_in}
use Rattle.noc_counts.proofs.GroupLemmas.{AreDone}
use Rattle.noc_counts.proofs.counts.clear_all.Given as goal

abbrev pub invariant-loop-group : goal.invariant-loop-group
invariant-loop-group l = AreDone (λ g old new. (j r : ℕ) → j < 32 → count_in new 0 j r ≡ 0) l.fn.of l.of l.group
