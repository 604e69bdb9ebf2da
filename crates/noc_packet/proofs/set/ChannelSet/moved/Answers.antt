use Rattle.noc_packet.proofs.SetLemmas.{moved_members, moved_fits}
use Rattle.noc_packet.proofs.set.ChannelSet.moved.Goals as goal

pub invariant_of-result : goal.invariant_of-result
invariant_of-result c = moved_fits c.self.inside.bits c.args.from c.args.count c.args.to c.requires.room

pub returns : goal.returns
returns c = λ k. rw (← c.self.view_is) (moved_members c.self.inside.bits c.args.from c.args.count c.args.to k c.requires.room)
