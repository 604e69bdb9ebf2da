use Rattle.std.proofs.Common.{◌≡◌, ℕ, Option, None, length, arith}
use Rattle.noc_route.proofs.EntryLemmas.{each-pushed}
use Rattle.noc_rank.specs.NotRisingTo.{mark_below}
use Rattle.noc_rank.proofs.descent.marks_below.Goals as goal

pub push_reserved-requires : goal.push_reserved-requires
push_reserved-requires c = omega (arith, c.loop-index.invariant.long, c.loop-index.invariant.room, c.loop-index-test.true)

pub loop-index-preserved : goal.loop-index-preserved
loop-index-preserved c =
    let xs = c.loop-index.marks.items in
    let n = c.loop-index.index in
    let is = c.loop-index.invariant in
    let long : length xs ≡ n = omega (arith, is.long, c.loop-index.marks.ok.0) in
    let P = λ (k : ℕ) (r : Option ℕ). r ≡ mark_below c.args.list.now.ranks.now c.args.start k in
    record {
      long = omega (arith, is.long, c.push_reserved.ensures.len);
      room = omega (arith, is.room, c.push_reserved.ensures.capacity);
      each = each-pushed None P xs c.push_reserved.new.self.items c.mark_below.result n long c.push_reserved.ensures.items is.each c.mark_below.ensures;
    }
