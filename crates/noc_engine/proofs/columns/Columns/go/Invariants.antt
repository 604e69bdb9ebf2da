use Rattle.noc_engine.proofs.RunLemmas.{IsRunning}
use Rattle.noc_engine.proofs.columns.Columns.go.Given as goal

abbrev pub invariant-loop-left : goal.invariant-loop-left
invariant-loop-left l = IsRunning l.cycles l.left l.initial.self l.self

abbrev pub decreases-loop-left : goal.decreases-loop-left
decreases-loop-left l = l.left
