use Rattle.std.proofs.Common.{◌≤◌}
use Rattle.noc_packet.specs.declared.limits.TheConstants.{MAX_DUE}
use Rattle.noc_net.proofs.LimitLemmas.{IsLastBefore}
use Rattle.noc_net.proofs.limit.last_due.Given as goal

-- the last due time so far
abbrev pub invariant-loop-packet : goal.invariant-loop-packet
invariant-loop-packet l = IsLastBefore l.network.net.packets l.packet l.last × (l.last ≤ MAX_DUE)
