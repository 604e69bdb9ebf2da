use Rattle.std.proofs.Common.{arith, ap, ◌∙◌}
use Rattle.noc_vc.specs.Output.{Output, ejection_output, is_owned}
use Rattle.noc_router.proofs.ChannelLemmas.{AreSound-sent, KeepsAwaiting-sent, is_owned-from, owner-there, read-at}
use Rattle.noc_router.proofs.channels.Channels.send.Goals as goal

pub spend-requires-clause-owned : goal.spend-requires-clause-owned
spend-requires-clause-owned c =
    let s = c.args.self.now in
    let there = read-at s.outputs.items c.args.next c.index_mut-2.result.now ejection_output (omega arith) c.index_mut-2.ensures.value in
    ap (λ (x : Output). is_owned x.holder) there
    ∙ is_owned-from _ c.args.index (owner-there s.size s.bank s.inputs.items s.outputs.items c.args.index c.args.next s.sound c.requires.input c.requires.output c.requires.owned)

pub invariant_of-self-clause-sound : goal.invariant_of-self-clause-sound
invariant_of-self-clause-sound c =
    let s = c.args.self.now in
    AreSound-sent s.size s.bank c.send-flit.new.bank s.inputs.items s.outputs.items c.args.index c.args.next _ _ _ _ c.send-flit.result
    s.sound (omega arith) (omega arith) (omega arith) c.requires.input c.requires.output
    c.send-flit.ensures.first c.send-flit.ensures.bank
    (read-at s.inputs.items c.args.index _ _ (omega arith) c.index_mut.ensures.value) c.send-flit.ensures.channel c.requires.owned
    (read-at s.outputs.items c.args.next _ _ (omega arith) c.index_mut-2.ensures.value) c.spend.ensures

pub returns-clause-awaits : goal.returns-clause-awaits
returns-clause-awaits c =
    let s = c.args.self.now in
    KeepsAwaiting-sent s.size s.bank c.send-flit.new.bank s.inputs.items s.outputs.items c.args.index _ _ c.send-flit.result
    s.sound (omega arith) c.requires.input c.send-flit.ensures.first
    (read-at s.inputs.items c.args.index _ _ (omega arith) c.index_mut.ensures.value) c.send-flit.ensures.channel
