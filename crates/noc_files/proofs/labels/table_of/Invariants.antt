use Rattle.std.proofs.Common.{◌≡◌, ◌<◌, ◌∷◌, [], ℕ, Some, length, option_map}
use Rattle.std.specs.Prelude.{slice_get}
use Rattle.noc_files.specs.Labels.{channel_text, label_text}
use Rattle.noc_files.proofs.labels.table_of.Given as goal

abbrev pub invariant-loop-index : goal.invariant-loop-index
invariant-loop-index l = record {
  long : length l.table ≡ 56;
  said : (k : ℕ) → k < l.index → option_map label_text (slice_get l.table k) ≡ Some (channel_text l.shape l.width (l.between ∷ []) k);
}
