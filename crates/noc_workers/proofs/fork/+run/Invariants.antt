use Rattle.std.proofs.Common.{vec_len, ◌+◌, ◌-◌, ◌*◌}
use Rattle.noc_workers.proofs.fork.+run.Given as goal

abbrev pub decreases-run_both-scope-spawn_with : goal.decreases-run_both-scope-spawn_with
decreases-run_both-scope-spawn_with g l = 4 * vec_len l.second + 1

abbrev pub decreases-run_both-scope : goal.decreases-run_both-scope
decreases-run_both-scope g l = 4 * (vec_len l.first + vec_len l.second) - 2

abbrev pub decreases-run_both : goal.decreases-run_both
decreases-run_both g l = 4 * (vec_len l.first + vec_len l.second) - 1

abbrev pub decreases-run_all : goal.decreases-run_all
decreases-run_all g l = 4 * vec_len l.workers
