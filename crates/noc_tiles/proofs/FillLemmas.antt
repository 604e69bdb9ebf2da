-- The beats of a tile once the row is in them.
use Rattle.std.proofs.Common.{◌≡◌, ◌≢◌, ◌⊎◌, inl, inr, ℕ, zero, suc, ◌<◌, Bool, List, [], ◌∷◌, length, get_or, ap, ap₂, sym, ◌∙◌, arith}
use Rattle.std.specs.Prelude.{nat_eq, ◌&&◌, if◌then◌else◌}
use Rattle.std.proofs.lemmas.Bool.Decides.{eqb_tells}
use Rattle.noc_packet.specs.declared.packet.Beat.{Beat}
use Rattle.noc_view.specs.View.{idle_beat}
use Rattle.noc_tiles.specs.TileStep.{Beats, with_row, with_beat}
use Rattle.noc_tiles.proofs.ClearLemmas.{place_at}
use Rattle.noc_tiles.proofs.TileStepLemmas.{Tells}

-- the wire has its beat, or is to get it
abbrev pub HasOrGets : Beats → List (ℕ × ℕ) → List Beat → Beats → ℕ → ℕ → Type 0
HasOrGets w ps row meant r q = (w r q ≡ meant r q) ⊎ ((j : ℕ) × (j < length ps) × (j < length row) × (get_or ps j (0, 0) ≡ place_at r q))

module _ (w : Beats) (p : ℕ × ℕ) (ps : List (ℕ × ℕ)) (x : Beat) (row : List Beat) (meant : Beats) (r q : ℕ) (right : x ≡ meant p.0 p.1) where
  abbrev test : Bool → Bool → Beat
  test s t = if s && t then x else w r q

  later : (j : ℕ) → p ≢ place_at r q → j < length (p ∷ ps) → j < length (x ∷ row) → get_or (p ∷ ps) j (0, 0) ≡ place_at r q → HasOrGets (with_beat w p x) ps row meant r q
  later zero ne h l e = absurd (ne e)
  later (suc j) ne h l e = inr (j, omega arith, omega arith, e)

  other : with_beat w p x r q ≡ w r q → p ≢ place_at r q → HasOrGets w (p ∷ ps) (x ∷ row) meant r q → HasOrGets (with_beat w p x) ps row meant r q
  other same ne (inl h) = inl (same ∙ h)
  other same ne (inr h) = later h.0 ne h.1 h.2 h.3

  at : Tells r p.0 → Tells q p.1 → HasOrGets w (p ∷ ps) (x ∷ row) meant r q → HasOrGets (with_beat w p x) ps row meant r q
  at (inl e) (inl f) h = inl (ap₂ test e.0 f.0 ∙ (right ∙ ap₂ meant (sym e.1) (sym f.1)))
  at (inl e) (inr f) h = other (ap₂ test e.0 f.0) (λ z. f.1 (sym (ap (λ (w : ℕ × ℕ). w.1) z))) h
  at (inr e) f h = other (ap (λ s. test s (nat_eq q p.1)) e.0) (λ z. e.1 (sym (ap (λ (w : ℕ × ℕ). w.0) z))) h

  pub next : HasOrGets w (p ∷ ps) (x ∷ row) meant r q → HasOrGets (with_beat w p x) ps row meant r q
  next = at (eqb_tells r p.0) (eqb_tells q p.1)

pub filled_right : (w : Beats) (ps : List (ℕ × ℕ)) (row : List Beat) (meant : Beats) (r q : ℕ)
    → ((j : ℕ) → j < length row → j < length ps → get_or row j idle_beat ≡ meant (get_or ps j (0, 0)).0 (get_or ps j (0, 0)).1)
    → HasOrGets w ps row meant r q → with_row w ps row r q ≡ meant r q
filled_right w [] row meant r q right (inl e) = e
filled_right w [] row meant r q right (inr h) = let k = h.1 in absurd (omega arith)
filled_right w (p ∷ ps) [] meant r q right (inl e) = e
filled_right w (p ∷ ps) [] meant r q right (inr h) = let k = h.2 in absurd (omega arith)
filled_right w (p ∷ ps) (x ∷ row) meant r q right c =
    filled_right (with_beat w p x) ps row meant r q (λ j h l. right (suc j) (omega arith) (omega arith)) (next w p ps x row meant r q (right 0 (omega arith) (omega arith)) c)
