-- Notes of packets, one after the other.
use Rattle.std.proofs.Common.{◌≡◌, ◌≢◌, ◌⊎◌, ℕ, Bool, true, false, List, [], ◌∷◌, ◌++◌, Option, Some, None, ap, ap₂, sym, ◌∙◌, refl, inl, inr}
use Rattle.std.specs.Prelude.{◌&&◌, if◌then◌else◌, nat_eq}
use Rattle.noc_cycles.proofs.Common.{eq-eqb, ne_eqb}
use Rattle.noc_cycles.specs.Told.{noted, noted_after, with_note}
use Rattle.noc_cycles.specs.declared.notes.Note.{Note}

after-push : (notes : List Note) (x : Note) (r i : ℕ) (before : Option ℕ) → noted_after (notes ++ x ∷ []) r i before ≡ with_note x r i (noted_after notes r i before)
after-push [] x r i before = refl
after-push (y ∷ notes) x r i before = after-push notes x r i (with_note y r i before)

-- one more note
pub noted-push : (notes : List Note) (x : Note) (r i : ℕ) → noted (notes ++ x ∷ []) r i ≡ with_note x r i (noted notes r i)
noted-push notes x r i = after-push notes x r i None

pub note-here : (x : Note) (before : Option ℕ) → with_note x x.router x.channel before ≡ Some x.packet
note-here x before = ap₂ (λ a b. if a && b then Some x.packet else before) (eq-eqb x.router x.router refl) (eq-eqb x.channel x.channel refl)

pub note-other : (x : Note) (r i : ℕ) (before : Option ℕ) → (r ≢ x.router) ⊎ (i ≢ x.channel) → with_note x r i before ≡ before
note-other x r i before (inl other) = ap (λ a. if a && nat_eq x.channel i then Some x.packet else before) (ne_eqb x.router r (λ e. other (sym e)))
note-other x r i before (inr other) = ap (λ b. if nat_eq x.router r && b then Some x.packet else before) (ne_eqb x.channel i (λ e. other (sym e))) ∙ none (nat_eq x.router r)
  where
    none : (a : Bool) → (if a && false then Some x.packet else before) ≡ before
    none true = refl
    none false = refl

module _ (old new : List Note) (x : Note) (pushed : new ≡ old ++ x ∷ []) where
  pub pushed-here : noted new x.router x.channel ≡ Some x.packet
  pushed-here = ap (λ (notes : List Note). noted notes x.router x.channel) pushed ∙ noted-push old x x.router x.channel ∙ note-here x _

  pub pushed-other : (r i : ℕ) → (r ≢ x.router) ⊎ (i ≢ x.channel) → noted new r i ≡ noted old r i
  pushed-other r i other = ap (λ (notes : List Note). noted notes r i) pushed ∙ noted-push old x r i ∙ note-other x r i _ other
