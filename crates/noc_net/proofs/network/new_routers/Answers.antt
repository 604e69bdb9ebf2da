use Rattle.std.proofs.Common.{◌≡◌, ℕ, ◌<◌, List, [], ◌∷◌, ◌++◌, ap, sym, subst, ◌∙◌, arith}
use Rattle.std.specs.List.{All}
use Rattle.std.specs.List.Sorted.{IsStrictlyIncreasing}
use Rattle.noc_topo.specs.Lists.{tabulate}
use Rattle.noc_topo.specs.Shape.{nodes}
use Rattle.noc_packet.specs.declared.packet.Packet.{Packet}
use Rattle.noc_view.specs.Start.{IsNumberedPacket}
use Rattle.noc_view.specs.View.{Site, View, opening_view}
use Rattle.noc_packet.specs.ByNode.{starts_of, ends_of}
use Rattle.noc_queues.specs.Queues.{AreByNode}
use Rattle.noc_queues.proofs.QueueLemmas.{ends-rise}
use Rattle.noc_theory.proofs.runs.RunLemmas.{tabulate_none, tabulate_more}
use Rattle.noc_net.proofs.PacketLemmas.{left-first, left-here, left-next, numbered-starts}
use Rattle.noc_net.proofs.network.new_routers.Goals as goal

pub loop-node-init : goal.loop-node-init
loop-node-init c =
    let nodes-are : c.nodes-nodes.result ≡ nodes c.args.relation.now.grid = c.nodes-nodes.ensures.value ∙ ap nodes c.shape.ensures.value in
    record {
      routers = c.in_ok-routers.ensures.items ∙ tabulate_none _;
      starts = left-first (starts_of c.args.packets.now) (nodes c.args.relation.now.grid) c.args.starts.items c.requires.starts;
      ends = left-first (ends_of c.args.packets.now) (nodes c.args.relation.now.grid) c.in_ok-ends.ends.items
          (subst (λ (n : ℕ). AreByNode (ends_of c.args.packets.now) n c.in_ok-ends.ends.items) nodes-are c.in_ok-ends.ensures);
    }

pub new-requires-in-loop-node-2-clause-starts : goal.new-requires-in-loop-node-2-clause-starts
new-requires-in-loop-node-2-clause-starts c =
    let packets = c.args.packets.now in
    let node = c.loop-node.node in
    let nodes-are : c.nodes-nodes.result ≡ nodes c.args.relation.now.grid = c.nodes-nodes.ensures.value ∙ ap nodes c.shape.ensures.value in
    let low : node < nodes c.args.relation.now.grid = omega (arith, nodes-are) in
    let queue : c.replace-starting.result.items ≡ starts_of packets node =
    ap (λ v. v.items) c.replace-starting.ensures.value
    ∙ left-here (starts_of packets) (nodes c.args.relation.now.grid) c.loop-node.starts.items node c.index_mut.result.now c.loop-node.invariant.starts low c.index_mut.ensures.value in
    subst (All IsNumberedPacket) (sym queue) (numbered-starts packets node c.requires.few c.requires.sendable)

pub new-requires-in-loop-node-2-clause-ends : goal.new-requires-in-loop-node-2-clause-ends
new-requires-in-loop-node-2-clause-ends c =
    let packets = c.args.packets.now in
    let node = c.loop-node.node in
    let nodes-are : c.nodes-nodes.result ≡ nodes c.args.relation.now.grid = c.nodes-nodes.ensures.value ∙ ap nodes c.shape.ensures.value in
    let low : node < nodes c.args.relation.now.grid = omega (arith, nodes-are) in
    let queue : c.replace-ending.result.items ≡ ends_of packets node =
    ap (λ v. v.items) c.replace-ending.ensures.value
    ∙ left-here (ends_of packets) (nodes c.args.relation.now.grid) c.loop-node.ends.items node c.index_mut-in-loop-node.result.now c.loop-node.invariant.ends low c.index_mut-in-loop-node.ensures.value in
    subst IsStrictlyIncreasing (sym queue) (ends-rise packets node)

pub loop-node-preserved : goal.loop-node-preserved
loop-node-preserved c =
    let packets = c.args.packets.now in
    let node = c.loop-node.node in
    let nodes-are : c.nodes-nodes.result ≡ nodes c.args.relation.now.grid = c.nodes-nodes.ensures.value ∙ ap nodes c.shape.ensures.value in
    let low : node < nodes c.args.relation.now.grid = omega (arith, nodes-are) in
    let starting : c.replace-starting.result.items ≡ starts_of packets node =
    ap (λ v. v.items) c.replace-starting.ensures.value
    ∙ left-here (starts_of packets) (nodes c.args.relation.now.grid) c.loop-node.starts.items node c.index_mut.result.now c.loop-node.invariant.starts low c.index_mut.ensures.value in
    let ending : c.replace-ending.result.items ≡ ends_of packets node =
    ap (λ v. v.items) c.replace-ending.ensures.value
    ∙ left-here (ends_of packets) (nodes c.args.relation.now.grid) c.loop-node.ends.items node c.index_mut-in-loop-node.result.now c.loop-node.invariant.ends low c.index_mut-in-loop-node.ensures.value in
    let site = λ (at : ℕ). (let s : Site = record { grid = c.args.relation.now.grid; node = at; vcs = c.args.relation.now.vcs; depth = c.args.depth } in s) in
    let made = λ (at : ℕ). opening_view (site at) (starts_of packets at) (ends_of packets at) in
    let here : c.in_ok-new.field-0 ≡ made node =
    c.in_ok-new.ensures
    ∙ ap (λ (starts : List (ℕ × Packet)). opening_view (site node) starts c.replace-ending.result.items) starting
    ∙ ap (λ (ends : List ℕ). opening_view (site node) (starts_of packets node) ends) ending in
    record {
      routers = c.in_ok-push.ensures.items
          ∙ ap (λ (views : List View). views ++ c.in_ok-new.field-0 ∷ []) c.loop-node.invariant.routers
          ∙ ap (λ (v : View). tabulate node made ++ v ∷ []) here
          ∙ sym (tabulate_more node made);
      starts = left-next (starts_of packets) (nodes c.args.relation.now.grid) c.loop-node.starts.items node c.replace-starting.new.dest c.loop-node.invariant.starts low
          (ap (λ v. v.items) c.replace-starting.ensures.after ∙ c.new.ensures.items);
      ends = left-next (ends_of packets) (nodes c.args.relation.now.grid) c.loop-node.ends.items node c.replace-ending.new.dest c.loop-node.invariant.ends low
          (ap (λ v. v.items) c.replace-ending.ensures.after ∙ c.new-in-loop-node.ensures.items);
    }
