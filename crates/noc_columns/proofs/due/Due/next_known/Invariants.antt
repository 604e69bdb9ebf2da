use Rattle.std.proofs.Common.{◌≡◌, ◌<◌, ℕ}
use Rattle.noc_columns.specs.Sources.{come_in}
use Rattle.noc_columns.proofs.due.Due.next_known.Given as goal

abbrev pub invariant-loop-following : goal.invariant-loop-following
invariant-loop-following l = (t : ℕ) → l.cycle < t → t < l.following → come_in l.self t ≡ 0
