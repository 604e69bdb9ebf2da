use Rattle.std.proofs.Common.{◌-◌, arith}
use Rattle.std.proofs.lemmas.Nat.{and_le_r}
use Rattle.noc_columns.proofs.LoopLemmas.{but_lowest-is}
use Rattle.noc_columns.proofs.sets.but_lowest.Goals as goal

pub returns-clause-members : goal.returns-clause-members
returns-clause-members c = but_lowest-is c.args.set

pub returns-clause-fewer : goal.returns-clause-fewer
returns-clause-fewer c = omega (arith, and_le_r c.args.set (c.args.set - 1), c.requires)
