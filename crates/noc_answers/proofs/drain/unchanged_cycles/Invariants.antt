use Rattle.std.proofs.Common.{◌≤◌}
use Rattle.noc_answers.proofs.DrainLemmas.{NoneDueOf}
use Rattle.noc_answers.proofs.drain.unchanged_cycles.Given as goal

-- none of the packets so far becomes due in that time
abbrev pub invariant-loop-number : goal.invariant-loop-number
invariant-loop-number l = record {
  within : l.quiet ≤ l.most;
  none : NoneDueOf l.network.net l.number l.count l.quiet;
}
