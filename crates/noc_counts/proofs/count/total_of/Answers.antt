use Rattle.std.proofs.Common.{arith, sym}
use Rattle.noc_counts.proofs.CountLemmas.{set-next, set-none}
use Rattle.noc_counts.proofs.count.total_of.Goals as goal

pub loop-slot-init : goal.loop-slot-init
loop-slot-init c = record { is = sym (set-none c.args.sets.now c.args.place c.args.router); small = omega arith }

pub loop-slot-preserved : goal.loop-slot-preserved
loop-slot-preserved c =
    let more = c.bit-sum.ensures.count in
    let next = set-next c.args.sets.now c.loop-slot.slot c.args.place c.args.router in
    let few = c.bit-sum.ensures.small in
    let is = c.loop-slot.invariant.is in
    let small = c.loop-slot.invariant.small in
    record { is = omega (arith, more, next, is); small = omega (arith, few, small) }
