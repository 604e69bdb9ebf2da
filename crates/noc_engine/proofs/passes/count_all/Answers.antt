use Rattle.std.proofs.Common.{◌≡◌, ◌<◌, Some, get_or, length, arith, subst}
use Rattle.std.specs.Prelude.{slice_get}
use Rattle.std.proofs.lemmas.Option.{slice_get_within}
use Rattle.noc_counts.specs.declared.counts.Counts.{Counts}
use Rattle.noc_cycles.specs.declared.block.Block.{Block}
use Rattle.noc_cycles.specs.declared.block.Work.{Work}
use Rattle.noc_engine.specs.Passes.{HasCounted}
use Rattle.noc_engine.proofs.ListLemmas.{left-next, more-of, read, same-item}
use Rattle.noc_engine.proofs.PassLemmas.{counted-here}
use Rattle.noc_engine.proofs.passes.count_all.Goals as goal

pub loop-number-preserved : goal.loop-number-preserved
loop-number-preserved c =
    let plan = c.args.plan.now in
    let n = c.loop-number.number in
    let inv = c.loop-number.invariant in
    let e = c.count.ensures in
    let one = c.index-blocks-number.result in
    let inside : n < length c.loop-number.counts = omega arith in
    record {
      left = left-next c.args.counts.now c.loop-number.counts n c.count.new.self inv.left;
      counted = more-of
          (λ b (old : Counts) (new : Counts).
          (block : Block) (work : Work) → slice_get c.args.blocks.now b ≡ Some block → slice_get c.args.works.now b ≡ Some work → HasCounted plan.pattern.table.ports block work old new)
          c.args.counts.now c.loop-number.counts n c.count.new.self inside inv.left inv.counted
          (λ block work at on. subst (λ (x : Block). HasCounted plan.pattern.table.ports x work (get_or c.loop-number.counts n c.count.new.self) c.count.new.self) (same-item one block _ (read c.args.blocks.now n one (omega arith) c.index-blocks-number.is) at)
          (counted-here plan.pattern c.args.works.now c.loop-number.counts n c.count.new.self one _ _ inside e.counts e.last e.cycles work on));
    }

pub returns : goal.returns
returns c = λ b block work old new at on was is. c.loop-number.invariant.counted b old new (let l = slice_get_within c.args.blocks.now b block at in omega (arith, l)) was is block work at on
