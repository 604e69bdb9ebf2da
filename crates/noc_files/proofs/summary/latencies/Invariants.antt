use Rattle.std.proofs.Common.{◌≡◌, ◌≤◌, ◌*◌, ◌^◌, length, sum}
use Rattle.std.specs.List.{filter_map}
use Rattle.noc_topo.specs.Lists.{below}
use Rattle.noc_net.specs.Latency.{latency_at}
use Rattle.noc_files.specs.Summary.{greatest_of}
use Rattle.noc_files.proofs.summary.latencies.Given as goal

abbrev pub invariant-loop-packet : goal.invariant-loop-packet
invariant-loop-packet l = record {
  few : l.count ≤ l.packet;
  bound : l.sum ≤ l.packet * 2 ^ 64;
  count_is : l.count ≡ length (filter_map (latency_at l.network) (below l.packet));
  sum_is : l.sum ≡ sum (filter_map (latency_at l.network) (below l.packet));
  greatest_is : l.greatest ≡ greatest_of (filter_map (latency_at l.network) (below l.packet));
}
