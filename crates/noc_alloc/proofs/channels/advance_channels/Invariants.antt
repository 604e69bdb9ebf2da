use Rattle.noc_alloc.proofs.SwitchLemmas.{AreAdvancedBelow}
use Rattle.noc_alloc.proofs.channels.advance_channels.Given as goal

abbrev pub invariant-loop-output : goal.invariant-loop-output
invariant-loop-output l = AreAdvancedBelow l.initial.arbiters l.grants l.output l.arbiters
