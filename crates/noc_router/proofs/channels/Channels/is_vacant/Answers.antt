use Rattle.std.proofs.Common.{◌≡◌, Bool, true, false, refl}
use Rattle.std.specs.Prelude.{not}

not-not : (b : Bool) → not (not b) ≡ b
not-not true = refl
not-not false = refl
