use Rattle.noc_counts.proofs.ClearLemmas.{clear-next}
use Rattle.noc_counts.proofs.counts.no_counts.Goals as goal

pub loop-number-preserved : goal.loop-number-preserved
loop-number-preserved c =
    clear-next c.loop-number.number c.loop-number.all.items c.push.new.self.items _ c.clear.new.self c.in_ok-push.ensures.items c.loop-number.invariant c.clear.ensures
