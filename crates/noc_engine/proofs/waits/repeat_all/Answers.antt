use Rattle.std.proofs.Common.{◌<◌, length, arith}
use Rattle.std.proofs.lemmas.Option.{slice_get_within}
use Rattle.noc_counts.specs.declared.counts.Counts.{Counts}
use Rattle.noc_engine.specs.Runs.{HasRepeated}
use Rattle.noc_engine.proofs.ListLemmas.{left-next, more-of}
use Rattle.noc_engine.proofs.RepeatLemmas.{repeated-here}
use Rattle.noc_engine.proofs.waits.repeat_all.Goals as goal

pub loop-number-preserved : goal.loop-number-preserved
loop-number-preserved c =
    let pattern = c.args.plan.now.pattern in
    let n = c.loop-number.number in
    let inv = c.loop-number.invariant in
    let e = c.repeat.ensures in
    let new = c.repeat.new.self in
    let inside : n < length c.loop-number.counts = omega arith in
    record {
      left = left-next c.args.counts.now c.loop-number.counts n new inv.left;
      done = more-of (λ b (old : Counts) (new : Counts). HasRepeated pattern c.args.times old new) c.args.counts.now c.loop-number.counts n new inside inv.left inv.done
          (repeated-here pattern c.args.times c.loop-number.counts n _ new inside e.counts e.cycles);
    }

pub returns : goal.returns
returns c = λ b old new was is. c.loop-number.invariant.done b old new (let l = slice_get_within c.args.counts.now b old was in omega (arith, l)) was is
