use Rattle.std.proofs.Common.{arith}
use Rattle.noc_counts.proofs.CountLemmas.{noted-row}
use Rattle.noc_counts.proofs.count.Count.note.Goals as goal

pub returns : goal.returns
returns c = noted-row c.args.slot _ c.row_at.result c.args.self.now (omega arith) c.row_at.ensures
