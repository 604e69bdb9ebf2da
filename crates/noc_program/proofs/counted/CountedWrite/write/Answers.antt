use Rattle.std.proofs.Common.{arith, refl, take}
use Rattle.std.proofs.KnownBytes.{Appends-nil}
use Rattle.std.proofs.lemmas.List.{length-take-le}
use Rattle.std.proofs.lemmas.Result.{err_from_is_err_and}
use Rattle.noc_program.specs.Counted.{counted_contents}
use Rattle.noc_program.proofs.CountedLemmas.{counted_kept, counted_more}
use Rattle.noc_program.proofs.counted.CountedWrite.write.Goals as goal

pub returns-then-room-bytes-clause-bytes : goal.returns-then-room-bytes-clause-bytes
returns-then-room-bytes-clause-bytes g c = Appends-nil (counted_contents g.W.Write.contents c.args.self.now)

pub returns-in_err-count-clause-bytes : goal.returns-in_err-count-clause-bytes
returns-in_err-count-clause-bytes g c =
    let p = err_from_is_err_and c.from_residual.result c.from_residual.ensures.1 in
    rw p.1 (counted_kept c.args.self.now.taken (g.W.Write.contents c.args.self.now.writer) (g.W.Write.contents c.write.new.self) c.in_err-count.ensures.bytes)

pub returns-clause-bytes : goal.returns-clause-bytes
returns-clause-bytes g c =
    counted_more c.args.self.now.taken _ c.in_ok-count.count (g.W.Write.contents c.args.self.now.writer) (g.W.Write.contents c.write.new.self) (take c.in_ok-count.count c.args.bytes.now)
    (length-take-le c.in_ok-count.count c.args.bytes.now (omega (arith, c.in_ok-count.ensures.bound))) refl c.in_ok-count.ensures.bytes
