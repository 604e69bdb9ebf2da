use Rattle.std.proofs.Common.{arith}
use Rattle.noc_engine.proofs.exchange.nothing_left.Goals as goal

pub push_reserved-requires : goal.push_reserved-requires
push_reserved-requires c = let is = c.loop.invariant in omega (arith, is.long, is.room, c.loop.left.ok.0)

pub loop-preserved : goal.loop-preserved
loop-preserved c =
    let is = c.loop.invariant in
    record {
      long = omega (arith, is.long, c.push_reserved.ensures.len, c.push_reserved.new.self.ok.0, c.loop.left.ok.0);
      room = omega (arith, is.room, c.push_reserved.ensures.capacity);
    }
