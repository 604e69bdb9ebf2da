use Rattle.std.proofs.Common.{◌≤◌, ◌*◌}
use Rattle.noc_tests.proofs.workers.goes_out.Given as goal

-- at most 100 cycles a call
abbrev pub invariant-loop-call : goal.invariant-loop-call
invariant-loop-call g l = l.network.count ≤ 100 * l._call
