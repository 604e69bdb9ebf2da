use Rattle.noc_packet.proofs.SetLemmas.{both_members}
use Rattle.noc_packet.proofs.set.ChannelSet.both.Goals as goal

pub returns : goal.returns
returns c = λ k. rw (← c.self.view_is, ← c.other.view_is) (both_members c.self.inside.bits c.other.inside.bits k)
