use Rattle.std.proofs.Common.{◌≡◌, ◌∙◌, ◌+◌, ◌*◌, ◌^◌, arith, replicate, subst}
use Rattle.std.proofs.lemmas.List.{length-set}
use Rattle.noc_packet.specs.Set.{has_bit}
use Rattle.noc_topo.specs.Lists.{one_if}
use Rattle.noc_counts.specs.Tallies.{at_level, bit_level, number_by}
use Rattle.noc_columns.specs.Words.{word}
use Rattle.noc_counts.proofs.TallyLemmas.{carried-next, carried-none}
use Rattle.noc_counts.proofs.RepeatLemmas.{chosen-level, pending-alike, zero-word}
use Rattle.noc_counts.proofs.tally.add_number.Goals as goal

pub loop-level-init : goal.loop-level-init
loop-level-init c = record { size = c.told-bits; carried = carried-none _ _ _ _ _ }

pub loop-level-preserved : goal.loop-level-preserved
loop-level-preserved c =
    let level = c.loop-level.level in
    record {
      size = length-set c.loop-level.bits level _ ∙ c.loop-level.invariant.size;
      carried = carried-next _ _ _ _ _ _ _ c.where_bit-more.result.now _ _ level c.loop-level.invariant.carried (omega arith)
          (λ j k. chosen-level c.args.times level j k c.args.set.now (replicate 32 0) c.where_bit-more.result.now (omega arith) zero-word c.where_bit-more.ensures)
          c.add_pending.ensures.bits c.add_pending.ensures.carry;
    }

pub returns : goal.returns
returns c = λ fits j k few.
    let bits = c.args.bits.now in
    let set = c.args.set.now in
    let level : c.loop-level.level ≡ 30 = omega arith in
    let upper = subst (λ n. number_by (bit_level c.loop-level.bits j k) n + 2 ^ n * one_if (has_bit (word j c.loop-level.carry) k)
    ≡ number_by (at_level bits (replicate 30 set) c.args.times j k) n + one_if (has_bit (word j c.args.carry.now) k))
    level (c.loop-level.invariant.carried.low j k few) in
    omega (arith, upper, pending-alike bits set c.args.times j k fits)
