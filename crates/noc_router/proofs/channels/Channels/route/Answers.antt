use Rattle.std.proofs.Common.{arith}
use Rattle.noc_router.proofs.ChannelLemmas.{AreSound-routed, packet-there, read-at}
use Rattle.noc_router.proofs.channels.Channels.route.Goals as goal

pub route-requires-clause-head : goal.route-requires-clause-head
route-requires-clause-head c =
    let s = c.args.self.now in
    packet-there s.size s.bank s.inputs.items s.outputs.items c.args.index _
    s.sound c.requires.exists (read-at s.inputs.items c.args.index _ _ (omega arith) c.index_mut.ensures.value) c.requires.head

pub invariant_of-self-clause-sound : goal.invariant_of-self-clause-sound
invariant_of-self-clause-sound c =
    let s = c.args.self.now in
    AreSound-routed s.size s.bank s.inputs.items s.outputs.items c.args.index c.args.set _ _
    s.sound (omega arith) (omega arith) c.requires.exists (read-at s.inputs.items c.args.index _ _ (omega arith) c.index_mut.ensures.value) c.route.ensures c.requires.idle
