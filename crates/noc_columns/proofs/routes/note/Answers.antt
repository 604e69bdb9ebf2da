use Rattle.std.proofs.Common.{arith}
use Rattle.noc_columns.proofs.MarkLemmas.{entry-put}
use Rattle.noc_columns.proofs.routes.note.Goals as goal

pub returns : goal.returns
returns c = λ k. entry-put c.args.sets.now c.args.channel c.args.set k (omega arith)
