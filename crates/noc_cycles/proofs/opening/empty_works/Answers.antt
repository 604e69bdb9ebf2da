use Rattle.std.proofs.Common.{arith, refl}
use Rattle.noc_cycles.proofs.OpeningLemmas.{works-next}
use Rattle.noc_cycles.proofs.opening.empty_works.Goals as goal

pub push_reserved-requires : goal.push_reserved-requires
push_reserved-requires c = omega (arith, c.loop.invariant.room, c.loop.invariant.are.many, c.loop.works.ok.0)

pub loop-preserved : goal.loop-preserved
loop-preserved c = record {
  room = omega (arith, c.loop.invariant.room, c.push_reserved.ensures.capacity);
  are = works-next c.loop.counter c.loop.works.items c.push_reserved.new.self.items _ c.push_reserved.ensures.items c.loop.invariant.are refl refl refl;
}
