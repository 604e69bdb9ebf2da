use Rattle.std.proofs.Common.{◌*◌, ap, arith, length, replicate, ◌∙◌}
use Rattle.std.proofs.lemmas.List.{length-replicate}
use Rattle.noc_topo.specs.Shape.{Grid, nodes}
use Rattle.noc_router.specs.Arbiters.{SizedArbiters}
use Rattle.noc_router.specs.Parts.{ChannelStates}
use Rattle.noc_router.specs.Tally.{TallyContents}
use Rattle.noc_view.specs.View.{opening_view}
use Rattle.noc_router.proofs.OpeningLemmas.{opening-is}
use Rattle.noc_router.proofs.router.Router.new.Goals as goal

pub invariant_of-result : goal.invariant_of-result
invariant_of-result c = record {
  grid = c.ports-ports.ensures.grid;
  node = omega (arith, ap nodes c.shape.ensures.value);
  ports = c.ports-ports.ensures.value;
  neighbours = c.neighbours_of.ensures;
  some_vc = omega arith;
  few_vcs = omega arith;
  channels = ap (λ (s : ChannelStates). s.size) c.in_ok-parts.ensures.channels;
  depth = ap (λ (s : ChannelStates). s.bank.capacity) c.in_ok-parts.ensures.channels;
  beats = omega arith;
  sending = λ vc e. absurd (cc (c.new-2.ensures.vc));
  awaiting = λ vc e. absurd (cc (c.new-2.ensures.vc));
  counts = ap (λ (t : TallyContents). length t.counts) c.in_ok-parts.ensures.tally ∙ length-replicate (c.ports-ports.result * c.vcs-vcs.result) (replicate 10 0);
  arbiter_ports = ap (λ (t : SizedArbiters). t.ports) c.in_ok-parts.ensures.arbiters;
  arbiter_vcs = ap (λ (t : SizedArbiters). t.vcs) c.in_ok-parts.ensures.arbiters;
}

pub returns : goal.returns
returns c =
    opening-is c.args.node c.ports-ports.result c.vcs-vcs.result c.args.depth c.shape.result.now c.new-2.result c.in_ok-parts.parts.0 _ c.in_ok-parts.parts.1 c.in_ok-parts.parts.2 c.in_ok-arrivals.arrivals c.neighbours_of.result c.args.starts.items c.args.ends.items
    c.ports-ports.ensures.grid c.ports-ports.ensures.value c.new-2.ensures.queue c.new-2.ensures.vc
    c.in_ok-parts.ensures.channels (ap (replicate 6) c.idle.ensures)
    c.in_ok-parts.ensures.tally
    c.in_ok-parts.ensures.arbiters c.in_ok-arrivals.ensures
    ∙ ap (λ (g : Grid). opening_view (record { grid = g; node = c.args.node; vcs = c.vcs-vcs.result; depth = c.args.depth }) c.args.starts.items c.args.ends.items) c.shape.ensures.value
    ∙ ap (λ n. opening_view (record { grid = c.args.relation.now.grid; node = c.args.node; vcs = n; depth = c.args.depth }) c.args.starts.items c.args.ends.items) c.vcs-vcs.ensures.value
