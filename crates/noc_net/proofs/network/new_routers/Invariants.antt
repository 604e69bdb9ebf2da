use Rattle.std.proofs.Common.{◌≡◌, ℕ}
use Rattle.noc_topo.specs.Lists.{tabulate}
use Rattle.noc_topo.specs.Shape.{nodes}
use Rattle.noc_view.specs.View.{opening_view}
use Rattle.noc_packet.specs.ByNode.{starts_of, ends_of}
use Rattle.noc_queues.specs.Queues.{AreByNode}
use Rattle.noc_net.proofs.PacketLemmas.{left_from}
use Rattle.noc_net.proofs.network.new_routers.Given as goal

-- a router for each node so far, to which its packets are given away
abbrev pub invariant-loop-node : goal.invariant-loop-node
invariant-loop-node l = record {
  routers : l.routers.items ≡ tabulate l.node (λ (node : ℕ). opening_view (record { grid = l.relation.grid; node = node; vcs = l.relation.vcs; depth = l.depth }) (starts_of l.packets node) (ends_of l.packets node));
  starts : AreByNode (left_from (starts_of l.packets) l.node) (nodes l.relation.grid) l.starts.items;
  ends : AreByNode (left_from (ends_of l.packets) l.node) (nodes l.relation.grid) l.ends.items;
}
