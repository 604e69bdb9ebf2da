use Rattle.std.proofs.Common.{◌∙◌, ap, arith}
use Rattle.std.proofs.lemmas.Nat.{trailing_le}
use Rattle.std.specs.Int.Count.{count_trailing_zeros, trailing_of_zero}
use Rattle.noc_sets.proofs.MemberLemmas.{least_is}
use Rattle.noc_columns.proofs.sets.least_or_past.Goals as goal

pub returns-clause-within : goal.returns-clause-within
returns-clause-within c = trailing_le 64 c.args.set

pub returns-clause-least : goal.returns-clause-least
returns-clause-least c = λ some. least_is c.args.set some (omega (arith, c.ranges.set.fits))

pub returns-clause-past : goal.returns-clause-past
returns-clause-past c = λ none. ap (count_trailing_zeros 64) none ∙ trailing_of_zero 64
