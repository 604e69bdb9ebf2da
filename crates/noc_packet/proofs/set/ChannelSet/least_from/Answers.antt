use Rattle.std.proofs.Common.{arith}
use Rattle.noc_packet.proofs.SetLemmas.{from-none, from-some}
use Rattle.noc_packet.proofs.set.ChannelSet.least_from.Goals as goal

pub returns-then-ahead-eq0 : goal.returns-then-ahead-eq0
returns-then-ahead-eq0 c = rw (← c.self.view_is) (from-none c.self.inside.bits c.args.from c.if-ahead-eq0.true)

pub returns-else-ahead-eq0 : goal.returns-else-ahead-eq0
returns-else-ahead-eq0 c = rw (← c.self.view_is) (from-some c.self.inside.bits c.args.from c.self.invariant (omega arith))
