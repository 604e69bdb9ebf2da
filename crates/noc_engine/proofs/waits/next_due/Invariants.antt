use Rattle.noc_engine.proofs.RepeatLemmas.{IsDueBelow}
use Rattle.noc_engine.proofs.waits.next_due.Given as goal

abbrev pub invariant-loop-number : goal.invariant-loop-number
invariant-loop-number l = IsDueBelow l.blocks l.number l.next
