use Rattle.std.proofs.Common.{◌≡◌, ℕ, ◌<◌, Some}
use Rattle.std.specs.Prelude.{slice_get}
use Rattle.noc_counts.specs.declared.counts.Counts.{Counts}
use Rattle.noc_cycles.specs.declared.block.Block.{Block}
use Rattle.noc_cycles.specs.declared.block.Work.{Work}
use Rattle.noc_engine.specs.Passes.{HasCounted}
use Rattle.noc_engine.proofs.ListLemmas.{IsLeftFrom}
use Rattle.noc_engine.proofs.passes.count_all.Given as goal

abbrev pub invariant-loop-number : goal.invariant-loop-number
invariant-loop-number l = record {
  left : IsLeftFrom l.fn.counts l.counts l.number;
  counted : (b : ℕ) (old new : Counts) → b < l.number → slice_get l.fn.counts b ≡ Some old → slice_get l.counts b ≡ Some new
      → (block : Block) (work : Work) → slice_get l.blocks b ≡ Some block → slice_get l.works b ≡ Some work → HasCounted l.plan.pattern.table.ports block work old new;
}
