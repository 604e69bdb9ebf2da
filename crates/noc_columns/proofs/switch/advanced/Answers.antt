use Rattle.std.proofs.Common.{◌≡◌, ◌<◌, ◌∙◌, ap, arith, set, bit_and, bit_or, slice_index, get_or-set_other, get_or-set_same}
use Rattle.std.proofs.lemmas.List.{length-set}
use Rattle.noc_sets.specs.Sets.{less}
use Rattle.noc_columns.proofs.PassLemmas.{all-next}
use Rattle.noc_columns.proofs.switch.advanced.Goals as goal

pub loop-q-preserved : goal.loop-q-preserved
loop-q-preserved c =
    let q = c.loop-q.q in
    let few : q < 8 = omega arith in
    let inv = c.loop-q.invariant in
    let any = c.args.any.now in
    let past = c.args.past.now in
    let ahead = c.args.ahead.now in
    let x = bit_or (bit_and (slice_index past q) (slice_index any q)) c.less.result in
    record {
      size = length-set c.loop-q.next q x ∙ inv.size;
      done = all-next (λ k. slice_index (set c.loop-q.next q x) k ≡ bit_or (bit_and (slice_index past k) (slice_index any k)) (less (slice_index ahead k) (slice_index any k))) q
          (λ k l. get_or-set_other c.loop-q.next q k x 0 (omega (arith, l)) ∙ inv.done k l)
          (get_or-set_same c.loop-q.next q x 0 (omega (arith, inv.size, few)) ∙ ap (bit_or (bit_and (slice_index past q) (slice_index any q))) c.less.ensures);
    }

pub returns : goal.returns
returns c = λ k l. c.loop-q.invariant.done k (omega (arith, l))
