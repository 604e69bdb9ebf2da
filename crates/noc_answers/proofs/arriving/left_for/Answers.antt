use Rattle.std.proofs.Common.{◌≡◌, ◌+◌, ◌<◌, length, ap, arith, subst, sym, ◌∙◌}
use Rattle.noc_packet.specs.declared.packet.Packet.{Packet}
use Rattle.noc_theory.specs.Network.{packet_at}
use Rattle.noc_net.proofs.LimitLemmas.{packet-good, packet-here}
use Rattle.noc_answers.specs.declared.arriving.PacketsLeft.{PacketsLeft}
use Rattle.noc_answers.proofs.ArrivingLemmas.{IsLeftBefore, left-all, left-more, left-none, left-same}
use Rattle.noc_answers.proofs.arriving.left_for.Goals.{then-is_left, else-is_left}
use Rattle.noc_answers.proofs.arriving.left_for.Goals as goal

pub loop-packet-init : goal.loop-packet-init
loop-packet-init c = left-none c.args.network.now.net c.args.network.now.count c.args.node

pub loop-packet-preserved : goal.loop-packet-preserved
loop-packet-preserved c =
    let u = c.args.network.now in
    let n = c.loop-packet.packet in
    let so_far = c.loop-packet.left in
    let After : PacketsLeft → Type 0 = λ (x : PacketsLeft). IsLeftBefore u.net u.count c.args.node (n + 1) x.flits x.longest in
    elim c.if-is_left.branch [
      | then-is_left w ↦
          let low : n < length u.net.packets = omega (arith, c.loop-packet-test.true, c.packets-packet-end.ensures.value) in
          let size : w.from-length.result ≡ (packet_at u.net n).length = w.from-length.ensures ∙ ap (λ (p : Packet). p.length) (packet-here u.net n w.packet.result w.packet.ensures) in
          let good = packet-good u.net c.packets-packet-end.ensures.good n w.packet.result low w.packet.ensures in
          subst After (sym w.left-is)
          (subst (λ m. IsLeftBefore u.net u.count c.args.node (n + 1) (so_far.flits + w.from-length.result) m) (sym w.max.ensures)
          (left-more u.net u.count c.args.node n so_far.flits so_far.longest w.from-length.result (sym c.is_left.ensures ∙ w.if-is_left.true) size (omega (arith, good.length, w.from-length.ensures)) c.loop-packet.invariant))
      | else-is_left w ↦
          subst After (sym w.left-is) (left-same u.net u.count c.args.node n so_far.flits so_far.longest (sym c.is_left.ensures ∙ w.if-is_left.false) c.loop-packet.invariant)
    ]

pub returns-clause-flits : goal.returns-clause-flits
returns-clause-flits c =
    let u = c.args.network.now in
    let all : c.loop-packet.packet ≡ length u.net.packets = omega (arith, c.loop-packet.auto.packet-end, c.loop-packet-test.false, c.packets-packet-end.ensures.value) in
    left-all u.net u.count c.args.node c.loop-packet.packet c.loop-packet.left.flits c.loop-packet.left.longest all c.loop-packet.invariant
