use Rattle.std.proofs.Common.{◌≡◌, ◌+◌, ap, subst, arith, ◌∙◌, w32}
use Rattle.std.proofs.lemmas.List.{length-set}
use Rattle.std.specs.Prelude.{[], ◌&&◌, slice_index_or, slice_set}
use Rattle.std.specs.Int.{bit_at, trailing_ones}
use Rattle.std.proofs.lemmas.Nat.Bits.{bit_at-trailing_ones}
use Rattle.noc_topo.specs.Lists.{one_if}
use Rattle.noc_packet.specs.Set.{has_bit}
use Rattle.noc_packet.proofs.SetLemmas.{has_bit-one}
use Rattle.noc_columns.specs.Words.{word}
use Rattle.noc_counts.specs.Tallies.{at_level, number_by}
use Rattle.noc_counts.proofs.TallyLemmas.{carried-all, carried-next, carried-none, last-small}
use Rattle.noc_counts.proofs.tally.add_carry.Goals as goal

pub loop-level-init : goal.loop-level-init
loop-level-init c = record { size = c.told-bits; carried = λ few. carried-none _ _ _ _ _ }

pub loop-level-preserved : goal.loop-level-preserved
loop-level-preserved c = record {
  size = length-set c.loop-level.bits c.loop-level.level _ ∙ c.loop-level.invariant.size;
  carried = λ few.
      let e : c.trailing_ones.result ≡ trailing_ones w32 c.args.times = c.trailing_ones.ensures in
      let ones = (bit_at-trailing_ones w32 c.args.times (omega arith)).2 c.loop-level.level (omega (arith, e)) in
      carried-next _ _ _ _ _ _ _ _ _ _ _ (c.loop-level.invariant.carried few) (omega arith)
      (λ j k. ap (λ b. one_if (b && has_bit (word j (slice_index_or c.args.pending.now c.loop-level.level [])) k)) (has_bit-one c.args.times c.loop-level.level ones))
      c.add_pending.ensures.bits c.add_pending.ensures.carry;
}

pub returns : goal.returns
returns c = λ few j k l.
    let e : c.trailing_ones.result ≡ trailing_ones w32 c.args.times = c.trailing_ones.ensures in
    let are = bit_at-trailing_ones w32 c.args.times (omega arith) in
    let small = last-small c.args.times (trailing_ones w32 c.args.times) few are.2 in
    let last : c.min-last.result ≡ trailing_ones w32 c.args.times = omega (arith, e, small) in
    let level : c.loop-level.level ≡ trailing_ones w32 c.args.times = omega (arith, last) in
    subst (λ n. number_by (at_level c.loop-level.bits (slice_set c.args.pending.now n c.copy.new.to) (c.args.times + 1) j k) 30
    ≡ number_by (at_level c.args.bits.now c.args.pending.now c.args.times j k) 30 + one_if (has_bit (word j c.args.carry.now) k)) (omega (arith, last, level))
    (carried-all _ _ _ _ _ _ _ c.copy.new.to c.loop-level.level c.copy.ensures (c.loop-level.invariant.carried few) (omega (arith, c.told-pending, level, small)) (omega
    (arith, level, small)) (λ i b. are.2 i (omega (arith, level))) (subst (λ n. bit_at c.args.times n ≡ 0) (omega (arith, level)) are.1) j k l)
