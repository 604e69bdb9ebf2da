use Rattle.noc_counts.proofs.LowLemmas.{added-two}
use Rattle.noc_counts.proofs.low.with_two.Goals as goal

pub returns : goal.returns
returns c = λ r. added-two c.args.low c.args.first c.args.second r
