use Rattle.std.proofs.Common.{◌+◌, ℕ, sym, subst, arith}
use Rattle.noc_net.specs.Limit.{IsLastDue}
use Rattle.noc_net.proofs.LimitLemmas.{IsLastBefore, last-all, last-more, last-opening, packet-good}
use Rattle.noc_net.proofs.limit.last_due.Goals as goal

pub loop-packet-init : goal.loop-packet-init
loop-packet-init c = (last-opening c.args.network.now.net.packets, omega arith)

pub loop-packet-preserved : goal.loop-packet-preserved
loop-packet-preserved c =
    let net = c.args.network.now.net in
    let good = packet-good net c.packets-packet-end.ensures.good c.loop-packet.packet c.packet.result (omega (arith, c.packets-packet-end.ensures.value)) c.packet.ensures in (
      subst (λ (last : ℕ). IsLastBefore net.packets (c.loop-packet.packet + 1) last) (sym c.max-last.ensures) (last-more net.packets c.loop-packet.packet c.loop-packet.last c.packet.result c.packet.ensures c.loop-packet.invariant.0),
      omega (arith, c.loop-packet.invariant.1, good.due, c.max-last.ensures),
    )

pub returns-clause-value : goal.returns-clause-value
returns-clause-value c =
    let all = c.packets-packet-end.ensures.value in
    subst (IsLastDue c.args.network.now.net.packets) (sym c.from.ensures) (last-all c.args.network.now.net.packets c.loop-packet.packet c.loop-packet.last (omega (arith, all)) c.loop-packet.invariant.0)
