use Rattle.noc_columns.proofs.SupplyLemmas.{either-bit}
use Rattle.noc_columns.proofs.supply.either.Goals as goal

pub returns : goal.returns
returns c = λ r. either-bit c.args.bits c.args.first c.args.second r
