use Rattle.noc_packet.proofs.SetLemmas.{from_members}
use Rattle.noc_packet.proofs.set.ChannelSet.from.Goals as goal

pub returns-clause-members : goal.returns-clause-members
returns-clause-members c = λ k. rw (← c.self.view_is) (from_members c.self.inside.bits c.args.index k c.self.invariant c.requires)
