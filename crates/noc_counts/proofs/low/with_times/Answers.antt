use Rattle.std.proofs.Common.{arith, refl}
use Rattle.noc_packet.specs.Set.{has_bit}
use Rattle.noc_counts.proofs.LowLemmas.{none-in, times-sum}
use Rattle.noc_counts.proofs.low.with_times.Goals as goal

pub returns : goal.returns
returns c = λ r.
    omega (arith, c.where_odd-one.ensures r, c.where_odd-two.ensures r, c.with_four-lower.ensures r, c.where_odd-four.ensures r, c.where_odd-eight.ensures r, c.with_four-upper.ensures r, none-in 0 r refl, times-sum c.args.times (has_bit c.args.set r) (omega arith))
