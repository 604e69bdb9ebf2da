use Rattle.std.proofs.Common.{Some, None}
use Rattle.noc_packet.proofs.SetLemmas.{least-alone}
use Rattle.noc_packet.proofs.set.ChannelSet.pop_least.Goals as goal

pub returns-in_err-least-clause-least : goal.returns-in_err-least-clause-least
returns-in_err-least-clause-least c = rw c.from_residual.ensures (least-alone c.args.self.now None c.in_err-least.ensures.least)

pub returns-clause-least : goal.returns-clause-least
returns-clause-least c = least-alone c.args.self.now (Some c.in_ok-least.least) c.in_ok-least.ensures.least
