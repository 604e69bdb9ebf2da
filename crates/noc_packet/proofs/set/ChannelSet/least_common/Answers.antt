use Rattle.std.proofs.Common.{arith}
use Rattle.noc_packet.proofs.SetLemmas.{least-none, least-some, least-within}
use Rattle.noc_packet.proofs.set.ChannelSet.least_common.Goals as goal

pub returns-then-both-eq0-clause-least : goal.returns-then-both-eq0-clause-least
returns-then-both-eq0-clause-least c = rw (← c.self.view_is, ← c.other.view_is) (least-none c.self.inside.bits c.other.inside.bits c.if-both-eq0.true)

pub returns-else-both-eq0-clause-least : goal.returns-else-both-eq0-clause-least
returns-else-both-eq0-clause-least c = rw (← c.self.view_is, ← c.other.view_is) (least-some c.self.inside.bits c.other.inside.bits c.self.invariant (omega arith))

pub returns-else-both-eq0-clause-within : goal.returns-else-both-eq0-clause-within
returns-else-both-eq0-clause-within c =
    least-within c.self.inside.bits c.other.inside.bits _ c.self.invariant (least-some c.self.inside.bits c.other.inside.bits c.self.invariant (omega arith)).0
