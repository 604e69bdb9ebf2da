use Rattle.std.proofs.Common.{◌<◌, ◌≤◌, ◌+◌, ◌∙◌, length, length-set, arith, subst, sym}
use Rattle.std.proofs.Math.Nat.{le-max_left, le-max_right, max-le}
use Rattle.std.proofs.lemmas.List.{get_or_default}
use Rattle.noc_route.proofs.ListedLemmas.{numbered-more}
use Rattle.noc_route.proofs.set_list.number_all.Goals as goal

pub loop-place-preserved : goal.loop-place-preserved
loop-place-preserved c =
    let n = c.loop-place.place in
    let old = c.loop-place.count in
    let number = c.number_of-number.result in
    let set = c.index-sets-place.result in
    let is = c.max-count.ensures in
    let more : old ≤ c.max-count.result = subst (λ m. old ≤ m) (sym is) (le-max_left old (number + 1)) in
    let last : number + 1 ≤ c.max-count.result = subst (λ m. number + 1 ≤ m) (sym is) (le-max_right old (number + 1)) in
    let within = c.number_of-number.ensures.within in
    let most : c.max-count.result ≤ 256 = subst (λ m. m ≤ 256) (sym is) (max-le c.loop-place.invariant.few (omega (arith, within, c.loop-place.invariant.few, c.if-number-eq-KINDS.false))) in
    let close : c.max-count.result ≤ n + 1 = subst (λ m. m ≤ n + 1) (sym is) (max-le (omega (arith, c.loop-place.invariant.numbered.few)) (omega (arith, within, c.loop-place.invariant.numbered.few))) in
    let inside : n < length c.loop-place.numbers = omega (arith, c.loop-place.auto.numbers, c.requires, c.loop-place-test.true) in
    let there : number < length c.loop-place.kinds = omega (arith, within, c.loop-place.invariant.few, c.if-number-eq-KINDS.false, c.loop-place.invariant.long) in
    record {
      few = most;
      long = length-set c.loop-place.kinds number set ∙ c.loop-place.invariant.long;
      numbered = numbered-more c.args.sets.now c.loop-place.kinds c.loop-place.numbers n old number set c.max-count.result inside there within
          c.number_of-number.ensures.same (c.index-sets-place.is ∙ get_or_default c.args.sets.now n set 0 c.loop-place-test.true) more (omega (arith, last)) close c.loop-place.invariant.numbered;
    }
