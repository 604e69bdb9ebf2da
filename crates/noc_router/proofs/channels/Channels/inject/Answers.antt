use Rattle.std.proofs.Common.{arith, ap, ◌∙◌}
use Rattle.std.specs.Prelude.{◌||◌, is_some}
use Rattle.noc_ring.specs.Buffers.{buffer_at}
use Rattle.noc_vc.specs.Input.{Input, idle_input, is_empty}
use Rattle.noc_router.proofs.ChannelLemmas.{AreSound-landed, read-at, next-either}
use Rattle.noc_router.proofs.channels.Channels.inject.Goals as goal

pub invariant_of-self-clause-sound : goal.invariant_of-self-clause-sound
invariant_of-self-clause-sound c =
    let s = c.args.self.now in
    let at = read-at s.inputs.items c.args.index c.index_mut.result.now idle_input (omega arith) c.index_mut.ensures.value in
    AreSound-landed s.size s.bank c.inject.new.bank s.inputs.items s.outputs.items c.args.index _ _ c.args.flit
    s.sound (omega arith) (omega arith) c.requires.exists
    at c.inject.ensures.channel c.inject.ensures.bank
    (ap (λ (x : Input). is_empty (buffer_at s.bank c.args.index) || is_some x.awaited) at ∙ next-either _ _ c.requires.next)
