use Rattle.noc_program.proofs.CountedLemmas.{counted_kept}
use Rattle.noc_program.proofs.counted.CountedWrite.flush.Goals as goal

pub returns : goal.returns
returns g c = record { bytes = counted_kept c.args.self.now.taken (g.W.Write.contents c.args.self.now.writer) (g.W.Write.contents c.flush.new.self) c.flush.ensures.bytes }
