use Rattle.std.proofs.Common.{◌+◌, arith}
use Rattle.std.proofs.lemmas.Option.{slice_get-get_or, slice_get_within}
use Rattle.noc_cycles.proofs.HearLemmas.{heard-all, heard-more}
use Rattle.noc_cycles.proofs.hears.hear.Goals as goal

pub loop-one-preserved : goal.loop-one-preserved
loop-one-preserved c = λ b old new was is.
    let inside = slice_get_within c.args.blocks.now b old was in
    let now = slice_get-get_or c.loop-one.blocks b old (omega (arith, inside, c.loop-one.auto.blocks)) in
    heard-more c.args.notes.now c.loop-one.one-index c.one-item.result (c.args.first + b) old _ new c.loop-one-test.true c.one-item.is (c.loop-one.invariant b old _ was now) (c.hear_note.ensures b _ new now is)

pub returns : goal.returns
returns c = λ b old new was is. heard-all c.args.notes.now c.loop-one.one-index (c.args.first + b) old new (omega arith) (c.loop-one.invariant b old new was is)
