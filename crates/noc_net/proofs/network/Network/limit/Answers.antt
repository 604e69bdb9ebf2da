use Rattle.std.proofs.Common.{arith}
use Rattle.noc_net.proofs.network.Network.limit.Goals as goal

pub returns-clause-value : goal.returns-clause-value
returns-clause-value c = record { last = c.last_due.result; due = c.last_due.ensures.value; sum = omega (arith, c.budget.ensures.value) }
