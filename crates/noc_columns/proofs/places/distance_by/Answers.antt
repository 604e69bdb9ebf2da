use mathlib.Core.Bool.{beq}
use Rattle.std.proofs.Common.{◌≡◌, ◌≢◌, Bool, true, false, refl}
use Rattle.std.proofs.lemmas.Bool.{false≢true, true≢false}
use Rattle.noc_topo.specs.Shape.{is_plus}
use Rattle.noc_columns.proofs.PlaceLemmas.{turned-back, turned-on}
use Rattle.noc_columns.proofs.places.distance_by.Goals as goal

same-of : (a b : Bool) → beq a b ≡ true → a ≡ b
same-of true true e = refl
same-of false false e = refl
same-of true false e = absurd (false≢true e)
same-of false true e = absurd (false≢true e)

other-of : (a b : Bool) → beq a b ≡ false → a ≢ b
other-of true true e = absurd (true≢false e)
other-of false false e = absurd (true≢false e)
other-of true false e = λ same. true≢false same
other-of false true e = λ same. false≢true same

pub returns-then-up-round-clause-is : goal.returns-then-up-round-clause-is
returns-then-up-round-clause-is c = turned-back c.args.shape.now c.args.port c.step_of-step.result c.args.round c.step_of-step.ensures (same-of (is_plus c.args.port) c.args.round c.if-up-round.true)

pub returns-else-up-round-clause-is : goal.returns-else-up-round-clause-is
returns-else-up-round-clause-is c = turned-on c.args.shape.now c.args.port c.step_of-step.result c.args.round c.step_of-step.ensures (other-of (is_plus c.args.port) c.args.round c.if-up-round.false)
