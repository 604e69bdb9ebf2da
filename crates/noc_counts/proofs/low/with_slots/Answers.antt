use Rattle.std.proofs.Common.{arith}
use Rattle.noc_counts.proofs.CountLemmas.{set-more}
use Rattle.noc_counts.proofs.low.with_slots.Goals as goal

pub returns : goal.returns
returns c = λ r. omega (arith, c.with_four.ensures r, set-more c.args.sets.now c.args.slot c.args.index r)
