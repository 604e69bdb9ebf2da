use Rattle.std.proofs.Common.{arith, get_or, refl}
use Rattle.std.proofs.lemmas.Option.{slice_get-get_or}
use Rattle.noc_engine.proofs.RepeatLemmas.{due-all, due-more, due-none}
use Rattle.noc_engine.proofs.waits.next_due.Goals as goal

pub loop-number-init : goal.loop-number-init
loop-number-init c = due-none _ _ refl

pub loop-number-preserved : goal.loop-number-preserved
loop-number-preserved c =
    let n = c.loop-number.number in
    let d = c.index-blocks-number.result in
    due-more c.args.blocks.now n c.loop-number.next c.min-next.result (get_or c.args.blocks.now n d) (slice_get-get_or c.args.blocks.now n d (omega arith)) c.min-next.ensures c.loop-number.invariant

pub returns : goal.returns
returns c = due-all c.args.blocks.now c.loop-number.number c.loop-number.next (omega arith) c.loop-number.invariant
