use Rattle.std.proofs.Common.{arith}
use Rattle.noc_counts.proofs.LowLemmas.{raised-next, raised-none}
use Rattle.noc_counts.proofs.low.Low+Row.add_from.Goals as goal

pub loop-i-init : goal.loop-i-init
loop-i-init c = raised-none _ _ _ _

pub loop-i-preserved : goal.loop-i-preserved
loop-i-preserved c =
    raised-next _ _ _ _ _ _ _ _ _ _ _ _ (omega arith) c.loop-i.invariant c.at.ensures c.with_sets-added.ensures c.put.ensures.here c.put.ensures.others c.put-in-loop-i.ensures.here c.put-in-loop-i.ensures.others
