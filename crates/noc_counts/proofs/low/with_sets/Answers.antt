use Rattle.std.proofs.Common.{arith}
use Rattle.noc_counts.proofs.CountLemmas.{set-none}
use Rattle.noc_counts.proofs.low.with_sets.Goals as goal

pub returns : goal.returns
returns c = λ r.
    omega (arith, c.with_slots-first.ensures r, c.with_slots-second.ensures r, c.with_slots-third.ensures r, c.with_slots-fourth.ensures r, c.with_four-upper.ensures r, set-none c.args.sets.now c.args.index r)
