use Rattle.std.proofs.Common.{arith}
use Rattle.noc_sets.proofs.MemberLemmas.{least_below, least_is}
use Rattle.noc_columns.proofs.sets.least.Goals as goal

pub returns-clause-within : goal.returns-clause-within
returns-clause-within c = least_below c.args.set c.requires (omega (arith, c.ranges.set.fits))

pub returns-clause-least : goal.returns-clause-least
returns-clause-least c = least_is c.args.set c.requires (omega (arith, c.ranges.set.fits))
