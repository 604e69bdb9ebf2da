use Rattle.std.proofs.Common.{◌≡◌, ◌<◌, ℕ, None}
use Rattle.std.specs.Prelude.{option_and_then, slice_get}
use Rattle.noc_files.specs.Trace.{traced_finding}
use Rattle.noc_files.proofs.told.tells_nothing.Given as goal

-- nothing is told of the channels so far
abbrev pub invariant-loop-finding : goal.invariant-loop-finding
invariant-loop-finding l = (k : ℕ) → k < l.finding-index → option_and_then (traced_finding l.packet) (slice_get l.findings k) ≡ None
