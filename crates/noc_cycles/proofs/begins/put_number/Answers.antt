use Rattle.std.proofs.Common.{arith}
use Rattle.noc_columns.proofs.MarkLemmas.{entry-put}
use Rattle.noc_cycles.proofs.begins.put_number.Goals as goal

pub returns : goal.returns
returns c = λ k. entry-put c.args.packets.now c.args.channel c.args.number k (omega arith)
