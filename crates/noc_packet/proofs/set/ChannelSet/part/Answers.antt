use Rattle.noc_packet.proofs.SetLemmas.{part_members}
use Rattle.noc_packet.proofs.set.ChannelSet.part.Goals as goal

pub returns : goal.returns
returns c = λ k. rw (← c.self.view_is) (part_members c.self.inside.bits c.args.from c.args.count k c.requires.count)
