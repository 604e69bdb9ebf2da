use Rattle.std.specs.Prelude.{◌≤◌}
use Rattle.noc_engine.specs.Origins.{setup_by}
use Rattle.noc_workers.proofs.ByLemmas.{IsRunning}
use Rattle.noc_workers.proofs.by.run_by.Given as goal

abbrev pub invariant-loop-left : goal.invariant-loop-left
invariant-loop-left g l = record {
  on : IsRunning (setup_by l.setup) l.fn.engine.count l.cycles l.left l.columns;
  pace : l.pace.workers ≤ l.workers;
}

abbrev pub decreases-loop-left : goal.decreases-loop-left
decreases-loop-left g l = l.left
