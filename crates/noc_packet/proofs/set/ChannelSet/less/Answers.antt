use Rattle.noc_packet.proofs.SetLemmas.{less_members}
use Rattle.noc_packet.proofs.set.ChannelSet.less.Goals as goal

pub returns : goal.returns
returns c = λ k. rw (← c.self.view_is, ← c.other.view_is) (less_members c.self.inside.bits c.other.inside.bits k c.self.invariant c.other.invariant)
