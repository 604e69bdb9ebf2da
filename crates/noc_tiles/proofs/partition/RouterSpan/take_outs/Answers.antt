use Rattle.std.proofs.Common.{◌≡◌, ℕ, ◌+◌, ◌*◌, map, subst, rules, arith}
use Rattle.noc_tiles.specs.Ends.{outlet}
use Rattle.noc_tiles.specs.Rings.{AreLeftOut, AreTakenOut, out_slots}
use Rattle.noc_tiles.proofs.RingLemmas.{out-step, out-there}
use Rattle.noc_tiles.proofs.partition.RouterSpan.take_outs.Goals as goal

pub move_end-requires : goal.move_end-requires
move_end-requires c =
    let s = c.args.self.now in
    let v = c.loop-k.invariant in
    out-there outlet s.shape.now s.first s.count c.loop-k.k (out_slots c.args.slots.now.items) c.loop-k.slots
    (let h = c.loop-k-test.true in let w = s.within in omega arith)
    c.going.result c.going.ensures (λ a h. c.requires c.loop-k.k a v.low c.loop-k-test.true h) v.rest

pub loop-k-preserved : goal.loop-k-preserved
loop-k-preserved c =
    let s = c.args.self.now in
    let v = c.loop-k.invariant in
    let low = v.low in
    let w = s.within in
    let step = out-step outlet s.shape.now s.grid s.first s.count c.loop-k.k (out_slots c.args.slots.now.items) c.loop-k.slots.items c.move_end.new.slots.items c.loop-k.outs.items c.move_end.new.ends.items
    (let h = c.loop-k-test.true in omega arith)
    c.going.result c.going.ensures low c.loop-k-test.true (λ a h. c.requires c.loop-k.k a low c.loop-k-test.true h) v.taken v.rest c.in_ok-move_end.ensures.slots c.in_ok-move_end.ensures.ends in
    record { low = omega arith; taken = step.0; rest = step.1 }

pub returns-clause-taken : goal.returns-clause-taken
returns-clause-taken c =
    let s = c.args.self.now in
    let low = c.loop-k.invariant.low in
    let end : c.loop-k.k ≡ (s.first + s.count) * 6 = search (rules, arith) in
    subst (λ (k : ℕ). AreTakenOut s.shape.now s.first s.count k (out_slots c.args.slots.now.items) (map outlet c.loop-k.outs.items)) end c.loop-k.invariant.taken

pub returns-clause-rest : goal.returns-clause-rest
returns-clause-rest c = λ ok.
    let s = c.args.self.now in
    let low = c.loop-k.invariant.low in
    let end : c.loop-k.k ≡ (s.first + s.count) * 6 = search (rules, arith) in
    subst (λ (k : ℕ). AreLeftOut s.shape.now k (out_slots c.args.slots.now.items) (out_slots c.loop-k.slots.items)) end c.loop-k.invariant.rest
