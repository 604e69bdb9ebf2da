use Rattle.noc_alloc.proofs.SwitchLemmas.{AllAdvanced, AreAdvancedBelow}
use Rattle.noc_alloc.proofs.switch.advance_switch.Given as goal

-- the pointers of the output ports below have moved, and those of the input ports that won them
abbrev pub invariant-loop-output : goal.invariant-loop-output
invariant-loop-output l = record {
  inputs : AllAdvanced l.initial.inputs l.picks l.wins l.output l.inputs;
  outputs : AreAdvancedBelow l.initial.outputs l.wins l.output l.outputs;
}
