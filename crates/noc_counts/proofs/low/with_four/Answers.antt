use Rattle.std.proofs.Common.{arith}
use Rattle.noc_counts.proofs.low.with_four.Goals as goal

pub returns : goal.returns
returns c = λ r. omega (arith, c.with_two-lower.ensures r, c.with_two-next.ensures r, c.with_two-upper.ensures r)
