use Rattle.std.proofs.Common.{ℕ, ◌*◌, flat_map, sum}
use Rattle.noc_packet.specs.declared.limits.TheConstants.{MAX_CHANNELS}
use Rattle.noc_topo.specs.Lists.{below}
use Rattle.noc_files.specs.Channels.{over_port}
use Rattle.noc_files.specs.Summary.{AreRaised, column_entry}
use Rattle.noc_files.proofs.summary.add_router.Given as goal

-- by the ports so far
abbrev pub invariant-loop-port : goal.invariant-loop-port
invariant-loop-port l =
    AreRaised (λ (column : ℕ). sum (flat_map (over_port l.network.net.relation l.router (column_entry l.network column l.router)) (below l.port)))
    (l.port * MAX_CHANNELS) l.fn.totals l.totals
