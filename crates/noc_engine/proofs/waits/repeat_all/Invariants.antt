use Rattle.std.proofs.Common.{◌≡◌, ℕ, ◌<◌, Some}
use Rattle.std.specs.Prelude.{slice_get}
use Rattle.noc_counts.specs.declared.counts.Counts.{Counts}
use Rattle.noc_engine.specs.Runs.{HasRepeated}
use Rattle.noc_engine.proofs.ListLemmas.{IsLeftFrom}
use Rattle.noc_engine.proofs.waits.repeat_all.Given as goal

abbrev pub invariant-loop-number : goal.invariant-loop-number
invariant-loop-number l = record {
  left : IsLeftFrom l.fn.counts l.counts l.number;
  done : (b : ℕ) (old new : Counts) → b < l.number → slice_get l.fn.counts b ≡ Some old → slice_get l.counts b ≡ Some new → HasRepeated l.plan.pattern l.times old new;
}
