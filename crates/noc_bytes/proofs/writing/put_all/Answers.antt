use Rattle.std.proofs.Common.{arith}
use Rattle.noc_bytes.proofs.SinkLemmas.{put_more}
use Rattle.noc_bytes.proofs.writing.put_all.Goals as goal

pub loop-at-preserved : goal.loop-at-preserved
loop-at-preserved g c =
    (omega arith, put_more (g.W.Sink.contents c.args.sink.now) (g.W.Sink.contents c.loop-at.sink) (g.W.Sink.contents c.put-taken.new.self) c.args.bytes.now c.loop-at.at c.put-taken.result c.loop-at.invariant.1 c.put-taken.ensures.takes)
