use Rattle.std.proofs.Common.{◌≡◌, ◌<◌, ◌++◌, Some, length, option_map}
use Rattle.std.specs.Prelude.{slice_get}
use Rattle.noc_view.specs.Names.{verdict_name}
use Rattle.noc_view.specs.Verdict.{column}
use Rattle.noc_view.specs.declared.verdict.Verdict.{Verdict}
use Rattle.noc_files.specs.Labels.{label_text}
use Rattle.noc_files.specs.Writing.{comma}
use Rattle.noc_files.proofs.labels.verdict_labels.Given as goal

-- the labels so far
abbrev pub invariant-loop-index : goal.invariant-loop-index
invariant-loop-index l = record {
  long : length l.labels ≡ 10;
  said : (verdict : Verdict) → column verdict < l.index
      → option_map label_text (slice_get l.labels (column verdict)) ≡ Some (comma ++ verdict_name verdict ++ comma);
}
