use Rattle.noc_packet.proofs.SetLemmas.{without_fits, without_members, without_bits}
use Rattle.noc_packet.proofs.set.ChannelSet.without.Goals as goal

pub invariant_of-result : goal.invariant_of-result
invariant_of-result c = without_fits _ _ c.self.invariant

pub returns-clause-members : goal.returns-clause-members
returns-clause-members c = λ k. rw (← c.self.view_is) (without_members c.self.inside.bits c.args.index k c.self.invariant c.requires)

pub returns-clause-bits : goal.returns-clause-bits
returns-clause-bits c = rw (← c.self.view_is) (without_bits c.self.inside.bits c.args.index c.self.invariant c.requires)
