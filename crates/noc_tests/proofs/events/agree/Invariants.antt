use Rattle.std.proofs.Common.{◌≡◌}
use Rattle.noc_tests.proofs.events.agree.Given as goal

-- the network stays
abbrev pub invariant-loop-event : goal.invariant-loop-event
invariant-loop-event l = l.core.net ≡ l.initial.core.net
