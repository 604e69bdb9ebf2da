use Rattle.std.proofs.Common.{arith}
use Rattle.noc_counts.proofs.GroupLemmas.{done-next, done-none}
use Rattle.noc_counts.proofs.counts.repeat_all.Goals as goal

pub loop-group-init : goal.loop-group-init
loop-group-init c = done-none _ _ c.told-of

pub loop-group-preserved : goal.loop-group-preserved
loop-group-preserved c = done-next _ _ _ _ _ c.loop-group.invariant (omega arith) (record { counts = c.repeat.ensures.counts; last = c.repeat.ensures.last })

pub returns-clause-each : goal.returns-clause-each
returns-clause-each c = λ g l. c.loop-group.invariant.done g (omega arith)

pub returns-clause-others : goal.returns-clause-others
returns-clause-others c = λ g l. c.loop-group.invariant.left g (omega arith)
