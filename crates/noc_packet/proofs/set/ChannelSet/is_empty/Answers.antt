use Rattle.noc_packet.proofs.SetLemmas.{is_zero-members}
use Rattle.noc_packet.proofs.set.ChannelSet.is_empty.Goals as goal

pub returns-clause-members : goal.returns-clause-members
returns-clause-members c = rw (← c.self.view_is) (is_zero-members c.self.inside.bits)
