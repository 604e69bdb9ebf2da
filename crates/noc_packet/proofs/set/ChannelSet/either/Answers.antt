use Rattle.std.proofs.lemmas.Nat.{or_lt}
use Rattle.noc_packet.proofs.SetLemmas.{either_members}
use Rattle.noc_packet.proofs.set.ChannelSet.either.Goals as goal

pub returns : goal.returns
returns c = λ k. rw (← c.self.view_is, ← c.other.view_is) (either_members c.self.inside.bits c.other.inside.bits k)

pub invariant_of-result : goal.invariant_of-result
invariant_of-result c = or_lt 56 c.self.inside.bits c.other.inside.bits c.self.invariant c.other.invariant
