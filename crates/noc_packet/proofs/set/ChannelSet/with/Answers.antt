use Rattle.noc_packet.proofs.SetLemmas.{with_fits, with_members, with_bits}
use Rattle.noc_packet.proofs.set.ChannelSet.with.Goals as goal

pub invariant_of-result : goal.invariant_of-result
invariant_of-result c = with_fits _ _ c.self.invariant c.requires

pub returns-clause-members : goal.returns-clause-members
returns-clause-members c = λ k. rw (← c.self.view_is) (with_members c.self.inside.bits c.args.index k c.requires)

pub returns-clause-bits : goal.returns-clause-bits
returns-clause-bits c = rw (← c.self.view_is) (with_bits c.self.inside.bits c.args.index c.requires)
