use Rattle.std.proofs.Common.{◌≡◌, List, ap, refl, sym, ◌∙◌, arith, subst}
use Rattle.noc_topo.specs.Lists.{tabulate}
use Rattle.noc_topo.specs.Shape.{nodes}
use Rattle.noc_packet.specs.declared.packet.Packet.{Packet}
use Rattle.noc_view.specs.View.{opening_view}
use Rattle.noc_theory.specs.Good.{IsGoodSetup}
use Rattle.noc_packet.specs.ByNode.{starts_of, ends_of}
use Rattle.noc_theory.specs.Network.{Setup}
use Rattle.noc_theory.proofs.runs.RunLemmas.{opening_views, opening_wires, silent_at}
use Rattle.noc_net.proofs.PartsLemmas.{parts-in_step}
use Rattle.noc_net.proofs.network.Network.new.Goals as goal

pub invariant_of-result : goal.invariant_of-result
invariant_of-result c =
    let net : Setup = record { relation = c.args.relation; depth = c.args.depth; packets = c.args.packets.items } in
    let views : c.in_ok-routers.field-0.routers.items ≡ tabulate (nodes c.args.relation.grid) (λ node. opening_view (record { grid = c.args.relation.grid; node = node; vcs = c.args.relation.vcs; depth = c.args.depth }) (starts_of c.args.packets.items node) (ends_of c.args.packets.items node)) =
    c.in_ok-routers.ensures.routers
    ∙ ap (λ (packets : List Packet). tabulate (nodes c.args.relation.grid) (λ node. opening_view (record { grid = c.args.relation.grid; node = node; vcs = c.args.relation.vcs; depth = c.args.depth }) (starts_of packets node) (ends_of packets node))) c.deref-4.ensures.value in
    let good : IsGoodSetup net = subst (λ (packets : List Packet). IsGoodSetup (record { relation = c.args.relation; depth = c.args.depth; packets = packets })) c.deref.ensures.value
    (c.in_default.ensures.good c.args.depth c.requires.some_depth) in
    record {
      parts = parts-in_step _ good (omega arith)
          (views ∙ sym (opening_views net))
          (opening_wires net c.in_ok-routers.field-0.beats.items (silent_at c.in_ok-routers.field-0.beats.items c.in_ok-routers.ensures.idle))
          c.in_ok-routers.ensures.beats
          c.in_ok-routers.ensures.room;
      behind = omega arith;
      within = omega arith;
      engine = c.in_ok-engine.ensures;
      routers = λ e. refl;
    }

pub returns-clause-made : goal.returns-clause-made
returns-clause-made c = refl

pub returns-clause-good : goal.returns-clause-good
returns-clause-good c =
    subst (λ (packets : List Packet). IsGoodSetup (record { relation = c.args.relation; depth = c.args.depth; packets = packets })) c.deref.ensures.value
    (c.in_default.ensures.good c.args.depth c.requires.some_depth)

pub returns-clause-memory : goal.returns-clause-memory
returns-clause-memory c = λ e. tt
