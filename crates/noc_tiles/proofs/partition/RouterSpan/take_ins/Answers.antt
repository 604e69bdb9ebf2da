use Rattle.std.proofs.Common.{◌≡◌, ℕ, ◌+◌, ◌*◌, map, subst, rules, arith}
use Rattle.noc_tiles.specs.Ends.{inlet}
use Rattle.noc_tiles.specs.Rings.{AreTakenIn, in_slots}
use Rattle.noc_tiles.proofs.RingLemmas.{in-step, in-there}
use Rattle.noc_tiles.proofs.partition.RouterSpan.take_ins.Goals as goal

pub move_end-requires : goal.move_end-requires
move_end-requires c =
    let s = c.args.self.now in
    let v = c.loop-k.invariant in
    in-there inlet s.shape.now s.first s.count c.loop-k.k (in_slots c.args.slots.now.items) c.loop-k.slots
    c.coming.result c.coming.ensures (λ h. c.requires c.loop-k.k v.low c.loop-k-test.true h) v.rest

pub loop-k-preserved : goal.loop-k-preserved
loop-k-preserved c =
    let s = c.args.self.now in
    let v = c.loop-k.invariant in
    let low = v.low in
    let step = in-step inlet s.shape.now s.first s.count c.loop-k.k (in_slots c.args.slots.now.items) c.loop-k.slots.items c.move_end.new.slots.items c.loop-k.ins.items c.move_end.new.ends.items
    c.coming.result c.coming.ensures low (λ h. c.requires c.loop-k.k low c.loop-k-test.true h) v.taken v.rest c.in_ok-move_end.ensures.slots c.in_ok-move_end.ensures.ends in
    record { low = omega arith; taken = step.0; rest = step.1 }

pub returns-clause-taken : goal.returns-clause-taken
returns-clause-taken c =
    let s = c.args.self.now in
    let low = c.loop-k.invariant.low in
    let end : c.loop-k.k ≡ (s.first + s.count) * 6 = search (rules, arith) in
    subst (λ (k : ℕ). AreTakenIn s.shape.now s.first s.count k (in_slots c.args.slots.now.items) (map inlet c.loop-k.ins.items)) end c.loop-k.invariant.taken
