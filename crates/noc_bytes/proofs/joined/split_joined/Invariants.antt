use Rattle.std.proofs.Common.{◌≡◌, ℕ, ◌<◌}
use Rattle.noc_bytes.specs.Joined.{line_at}
use Rattle.noc_bytes.proofs.joined.split_joined.Given as goal

abbrev pub invariant-loop-at : goal.invariant-loop-at
invariant-loop-at l = (j : ℕ) → j < l.at → line_at l.text j ≡ 0
