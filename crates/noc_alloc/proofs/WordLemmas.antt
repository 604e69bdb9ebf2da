-- Words on lists and options.
use Rattle.std.proofs.Common.{◌≡◌, ◌≢◌, ℕ, true, false, Option, Some, None, refl, ap, ◌∙◌}
use Rattle.std.proofs.lemmas.Bool.{eq-eqb, ne_eqb, eqb-true, false≢true}
use Rattle.noc_topo.specs.Lists.{is_some_of}

pub is_some_of-true : (o : Option ℕ) (x : ℕ) → is_some_of o x ≡ true → o ≡ Some x
is_some_of-true None x e = absurd (false≢true e)
is_some_of-true (Some y) x e = ap Some (eqb-true y x e)

pub is_some_of-some : (o : Option ℕ) (x : ℕ) → o ≡ Some x → is_some_of o x ≡ true
is_some_of-some o x e = ap (λ p. is_some_of p x) e ∙ eq-eqb x x refl

pub is_some_of-none : (o : Option ℕ) (x : ℕ) → o ≡ None → is_some_of o x ≡ false
is_some_of-none o x e = ap (λ p. is_some_of p x) e

pub is_some_of-other : (o : Option ℕ) (x y : ℕ) → o ≡ Some y → y ≢ x → is_some_of o x ≡ false
is_some_of-other o x y e other = ap (λ p. is_some_of p x) e ∙ ne_eqb y x other
