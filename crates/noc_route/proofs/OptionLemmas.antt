-- Options that are known to have a value or none.
use Rattle.std.proofs.Common.{◌≡◌, true, false, Option, Some, None, refl, sym}
use Rattle.std.specs.Prelude.{is_none, is_some}
use Rattle.std.proofs.lemmas.Bool.{false≢true}

pub some-value : {X : Type 0} (o : Option X) → is_some o ≡ true → (x : X) × (o ≡ Some x)
some-value None e = absurd (false≢true e)
some-value (Some x) e = (x, refl)

pub no-value : {X : Type 0} (o : Option X) → is_some o ≡ false → o ≡ None
no-value None e = refl
no-value (Some x) e = absurd (false≢true (sym e))

pub is_none-none : {X : Type 0} (o : Option X) → is_none o ≡ true → o ≡ None
is_none-none None e = refl
is_none-none (Some x) e = absurd (false≢true e)
