use Rattle.std.proofs.Common.{arith}
use Rattle.noc_counts.proofs.GroupLemmas.{done-next, done-none}
use Rattle.noc_counts.proofs.counts.note_all.Goals as goal

pub loop-group-init : goal.loop-group-init
loop-group-init c = done-none _ _ c.told-of

pub loop-group-preserved : goal.loop-group-preserved
loop-group-preserved c = done-next _ _ _ _ _ c.loop-group.invariant (omega arith) c.note.ensures

pub returns : goal.returns
returns c = λ g l. c.loop-group.invariant.done g (omega arith)
