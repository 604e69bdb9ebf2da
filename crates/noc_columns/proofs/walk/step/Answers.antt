use Rattle.std.proofs.Common.{◌≡◌, Bool, true, false, refl, arith, ◌∙◌}
use Rattle.std.specs.Prelude.{nat_eq, if◌then◌else◌}
use Rattle.noc_columns.proofs.ComeLemmas.{left-next, rest-next}
use Rattle.noc_columns.proofs.walk.step.Goals as goal
use mir.Val.{bool_byte}

byte-is : (b : Bool) → bool_byte b ≡ (if b then 1 else 0)
byte-is true = refl
byte-is false = refl

pub returns-clause-left : goal.returns-clause-left
returns-clause-left c = left-next c.args.left.now c.least-index.result c.but_lowest-others.result (omega arith) c.least.result c.least.ensures.least c.but_lowest-others.ensures.members

pub returns-clause-rest : goal.returns-clause-rest
returns-clause-rest c = rest-next c.args.left.now c.least-index.result c.but_lowest-others.result (omega arith) c.args.rest c.from.result c.least-index.ensures.least c.requires.words (c.from.ensures ∙ byte-is (nat_eq c.but_lowest-others.result 0))
