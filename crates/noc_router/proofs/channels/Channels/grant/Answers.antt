use Rattle.std.proofs.Common.{arith}
use Rattle.noc_router.proofs.ChannelLemmas.{AreSound-granted, read-at}
use Rattle.noc_router.proofs.channels.Channels.grant.Goals as goal

pub invariant_of-self-clause-sound : goal.invariant_of-self-clause-sound
invariant_of-self-clause-sound c =
    let s = c.args.self.now in
    AreSound-granted s.size s.bank s.inputs.items s.outputs.items c.args.index c.args.next _ _ _ c.index_mut.result.now _
    s.sound (omega arith) (omega arith) (omega arith) c.requires.input c.requires.output
    (read-at s.inputs.items c.args.index _ _ (omega arith) c.index_mut-input.ensures.value) c.grant.ensures c.requires.waits
    c.hold.ensures c.requires.free
