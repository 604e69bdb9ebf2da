use Rattle.noc_packet.proofs.SetLemmas.{span_members, span_fits}
use Rattle.noc_packet.proofs.set.ChannelSet.span.Goals as goal

pub invariant_of-result : goal.invariant_of-result
invariant_of-result c = span_fits c.args.from c.args.count c.requires

pub returns : goal.returns
returns c = λ k. span_members c.args.from c.args.count k c.requires
