use Rattle.std.proofs.Common.{arith}
use Rattle.noc_net.proofs.LimitLemmas.{packet-good}
use Rattle.noc_files.proofs.permitted.permitted_to.Goals as goal

pub permitted-requires-clause-class : goal.permitted-requires-clause-class
permitted-requires-clause-class c =
    let good = packet-good c.args.network.now.net c.packets.ensures.good c.in-Some.number c.packet-packet.result (omega (arith, c.if-number-packets.true, c.packets.ensures.value)) c.packet-packet.ensures in
    rw c.relation.ensures good.class

pub permitted-requires-clause-dst : goal.permitted-requires-clause-dst
permitted-requires-clause-dst c =
    let good = packet-good c.args.network.now.net c.packets.ensures.good c.in-Some.number c.packet-packet.result (omega (arith, c.if-number-packets.true, c.packets.ensures.value)) c.packet-packet.ensures in
    rw c.relation.ensures good.destination
