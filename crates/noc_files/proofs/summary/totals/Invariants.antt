use Rattle.std.proofs.Common.{◌≡◌, ℕ, ◌*◌, flat_map, length, replicate, sum}
use Rattle.noc_packet.specs.declared.limits.TheConstants.{INDICES}
use Rattle.noc_topo.specs.Lists.{below}
use Rattle.noc_files.specs.Channels.{over_router}
use Rattle.noc_files.specs.Summary.{AreRaised, column_entry}
use Rattle.noc_files.proofs.summary.totals.Given as goal

-- by the routers so far
abbrev pub invariant-loop-router : goal.invariant-loop-router
invariant-loop-router l = record {
  long : length l.totals ≡ 10;
  raised : AreRaised (λ (column : ℕ). sum (flat_map (λ (router : ℕ). over_router l.network.net.relation router (column_entry l.network column router)) (below l.router)))
      (l.router * INDICES) (replicate 10 0) l.totals;
}
