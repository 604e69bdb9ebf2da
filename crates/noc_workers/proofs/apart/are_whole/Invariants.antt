use Rattle.std.proofs.Common.{◌≡◌, ◌<◌, ℕ, Some, true}
use Rattle.std.specs.List.{slice_get}
use Rattle.noc_workers.specs.declared.worker.Worker.{Worker}
use Rattle.noc_workers.proofs.apart.are_whole.Given as goal

abbrev pub invariant-loop-worker : goal.invariant-loop-worker
invariant-loop-worker l = (i : ℕ) (one : Worker) → i < l.worker-index → slice_get l.workers i ≡ Some one → one.is_whole ≡ true
