use Rattle.std.proofs.Common.{◌≡◌, ◌≤◌, ◌-◌, length}
use Rattle.noc_workers.specs.Cuts.{AllMayRun}
use Rattle.noc_workers.specs.Rounds.{start_by}
use Rattle.noc_workers.proofs.apart.run_on.Given as goal

abbrev pub invariant-loop-cycles : goal.invariant-loop-cycles
invariant-loop-cycles g l = record {
  within : l.cycles ≤ l.most;
  may : AllMayRun (start_by l.run) l.cycles (l.most - l.cycles) 0 (length l.run.plan.now.around.items) l.workers.items;
  pace : l.pace.workers ≡ l.initial.pace.workers;
}

abbrev pub decreases-loop-cycles : goal.decreases-loop-cycles
decreases-loop-cycles g l = l.most - l.cycles
