use Rattle.std.proofs.Common.{◌≡◌, ◌<◌, ◌/◌, ◌%◌, ℕ, Some, length}
use Rattle.std.specs.Prelude.{slice_get}
use Rattle.noc_topo.specs.Shape.{ports}
use Rattle.noc_files.specs.Channels.{is_input}
use Rattle.noc_files.proofs.inputs.inputs_of.Given as goal

abbrev pub invariant-loop-index : goal.invariant-loop-index
invariant-loop-index l = record {
  long : length l.inputs ≡ 1792;
  known : (k : ℕ) → k < l.index → k % 7 < ports l.shape → slice_get l.inputs k ≡ Some (is_input l.shape (k / 7) (k % 7));
}
