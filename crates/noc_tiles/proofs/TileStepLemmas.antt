-- One more beat in a row.
use Rattle.std.proofs.Common.{◌≡◌, ◌≢◌, ◌⊎◌, inl, inr, ℕ, suc, ◌<◌, Bool, true, false, List, [], ◌∷◌, ◌++◌, map, length, get_or, set, refl, ap, ap₂, sym, ◌∙◌, arith, subst}
use Rattle.std.specs.Prelude.{nat_eq, ◌&&◌, if◌then◌else◌}
use Rattle.std.proofs.lemmas.Bool.Decides.{eqb_tells}
use Rattle.std.proofs.lemmas.List.{set-get_or, length-map, get_or-map, map-set, get_or-set_same, get_or-set_other}
use Rattle.noc_packet.specs.declared.packet.Beat.{Beat}
use Rattle.noc_view.specs.View.{idle_beat}
use Rattle.noc_theory.specs.Halves.{beat_at}
use Rattle.noc_tiles.specs.Ends.{WireEnd, Ring, end_after_beat}
use Rattle.noc_tiles.specs.TileStep.{names, ends_after_beats, arrival_ports, with_row, with_beat, Beats}
use Rattle.noc_tiles.specs.Tiles.{AreLinkPorts}

module _ {A : Type 0} where
  pub fed-nil : (ws : List (WireEnd A)) → ends_after_beats ws [] ≡ ws
  fed-nil [] = refl
  fed-nil (w ∷ ws) = refl

  pub length-fed : (ws : List (WireEnd A)) (row : List Beat) → length (ends_after_beats ws row) ≡ length ws
  length-fed [] row = refl
  length-fed (w ∷ ws) [] = refl
  length-fed (w ∷ ws) (x ∷ row) = ap suc (length-fed ws row)

  pub ports-fed : (ws : List (WireEnd A)) (row : List Beat) → arrival_ports (ends_after_beats ws row) ≡ arrival_ports ws
  ports-fed [] row = refl
  ports-fed (w ∷ ws) [] = refl
  ports-fed (w ∷ ws) (x ∷ row) = ap (λ ps. w.at ∷ ps) (ports-fed ws row)

  pub fed-more : (ws : List (WireEnd A)) (row : List Beat) (x : Beat) (d : WireEnd A) → length row < length ws
      → set (ends_after_beats ws row) (length row) (end_after_beat (get_or (ends_after_beats ws row) (length row) d) x) ≡ ends_after_beats ws (row ++ x ∷ [])
  fed-more [] row x d l = absurd (omega arith)
  fed-more (w ∷ ws) [] x d l = ap (λ vs. end_after_beat w x ∷ vs) (sym (fed-nil ws))
  fed-more (w ∷ ws) (y ∷ row) x d l = ap (λ vs. end_after_beat w y ∷ vs) (fed-more ws row x d (omega arith))

  pub names-fed : (ws : List (WireEnd A)) (row : List Beat) → names (ends_after_beats ws row) ≡ names ws
  names-fed [] row = refl
  names-fed (w ∷ ws) [] = refl
  names-fed (w ∷ ws) (x ∷ row) = ap (λ ps. (w.at, w.ring) ∷ ps) (names-fed ws row)

  pub ports-names : (ws vs : List (WireEnd A)) → names ws ≡ names vs → arrival_ports ws ≡ arrival_ports vs
  ports-names ws vs e = sym (firsts ws) ∙ (ap (map (λ (n : (ℕ × ℕ) × Ring A). n.0)) e ∙ firsts vs)
    where
      firsts : (us : List (WireEnd A)) → map (λ (n : (ℕ × ℕ) × Ring A). n.0) (names us) ≡ arrival_ports us
      firsts [] = refl
      firsts (u ∷ us) = ap (λ ps. u.at ∷ ps) (firsts us)

-- ---- the beats on the wires

abbrev pub Tells : ℕ → ℕ → Type 0
Tells a b = ((nat_eq a b ≡ true) × (a ≡ b)) ⊎ ((nat_eq a b ≡ false) × (a ≢ b))

pub beat_at-set : (bs : List (List Beat)) (r p : ℕ) (x : Beat) → r < length bs → p < length (get_or bs r []) → (a q : ℕ)
    → beat_at (set bs r (set (get_or bs r []) p x)) a q ≡ with_beat (beat_at bs) (r, p) x a q
beat_at-set bs r p x l m a q = at (eqb_tells a r) (eqb_tells q p)
  where
    row : List Beat
    row = set (get_or bs r []) p x

    test : Bool → Bool → Beat
    test s t = if s && t then x else beat_at bs a q

    here : a ≡ r → beat_at (set bs r row) a q ≡ get_or row q idle_beat
    here e = ap (λ i. beat_at (set bs r row) i q) e ∙ ap (λ one. get_or one q idle_beat) (get_or-set_same bs r row [] l)

    at : Tells a r → Tells q p → beat_at (set bs r row) a q ≡ with_beat (beat_at bs) (r, p) x a q
    at (inl e) (inl f) = here e.1 ∙ (ap (λ j. get_or row j idle_beat) f.1 ∙ (get_or-set_same (get_or bs r []) p x idle_beat m ∙ sym (ap₂ test e.0 f.0)))
    at (inl e) (inr f) = here e.1 ∙ (get_or-set_other (get_or bs r []) p q x idle_beat f.1 ∙ (ap (λ i. beat_at bs i q) (sym e.1) ∙ sym (ap₂ test e.0 f.0)))
    at (inr e) f = ap (λ one. get_or one q idle_beat) (get_or-set_other bs r a row [] e.1) ∙ sym (ap (λ s. test s (nat_eq q p)) e.0)

pub filled-nil : (w : Beats) (ps : List (ℕ × ℕ)) (r q : ℕ) → with_row w ps [] r q ≡ w r q
filled-nil w [] r q = refl
filled-nil w (p ∷ ps) r q = refl

pub filled-more : (w : Beats) (ps : List (ℕ × ℕ)) (row : List Beat) (x : Beat) (d : ℕ × ℕ) (r q : ℕ) → length row < length ps
    → with_beat (with_row w ps row) (get_or ps (length row) d) x r q ≡ with_row w ps (row ++ x ∷ []) r q
filled-more w [] row x d r q l = absurd (omega arith)
filled-more w (p ∷ ps) [] x d r q l = sym (filled-nil (with_beat w p x) ps r q)
filled-more w (p ∷ ps) (y ∷ row) x d r q l = filled-more (with_beat w p y) ps row x d r q (omega arith)

pub with_beat-same : (f g : Beats) (p p' : ℕ × ℕ) (x : Beat) (r q : ℕ) → p ≡ p' → f r q ≡ g r q → with_beat f p x r q ≡ with_beat g p' x r q
with_beat-same f g p p' x r q e h =
    ap (λ (y : Beat). if nat_eq r p.0 && nat_eq q p.1 then x else y) h ∙ ap (λ (z : ℕ × ℕ). with_beat g z x r q) e

pub filled-same : (f g : Beats) (ps : List (ℕ × ℕ)) (row : List Beat) (r q : ℕ) → f r q ≡ g r q → with_row f ps row r q ≡ with_row g ps row r q
filled-same f g [] row r q h = h
filled-same f g (p ∷ ps) [] r q h = h
filled-same f g (p ∷ ps) (x ∷ row) r q h = filled-same (with_beat f p x) (with_beat g p x) ps row r q (with_beat-same f g p p x r q refl h)

-- a loop over ends, whose views are f of them
module _ {X A : Type 0} (f : X → WireEnd A) where
  pub length-same : (is0 is : List X) (row : List Beat) → map f is ≡ ends_after_beats (map f is0) row → length is ≡ length is0
  length-same is0 is row e = sym (length-map is f) ∙ (ap length e ∙ (length-fed (map f is0) row ∙ length-map is0 f))

  pub place-at : (is0 is : List X) (row : List Beat) (i : ℕ) (d : X) (e : ℕ × ℕ) → map f is ≡ ends_after_beats (map f is0) row → i < length is
      → get_or (arrival_ports (map f is0)) i e ≡ (f (get_or is i d)).at
  place-at is0 is row i d e h l =
      let l' : i < length (map f is) = rw length-map l in
      ap (λ ps. get_or ps i e) (sym (ports-fed (map f is0) row) ∙ ap arrival_ports (sym h))
      ∙ (get_or-map (λ (w : WireEnd A). w.at) (map f is) i (f d) e l' ∙ ap (λ (w : WireEnd A). w.at) (get_or-map f is i d (f d) l))

  -- the place of the i-th end is one of those
  pub within-at : (rows links : ℕ) (is0 is1 is : List X) (row : List Beat) (i : ℕ) (d : X) → AreLinkPorts rows links (arrival_ports (map f is0)) → is1 ≡ is0 → map f is ≡ ends_after_beats (map f is1) row → i < length is
      → ((f (get_or is i d)).at.0 < rows) × ((f (get_or is i d)).at.1 < links)
  within-at rows links is0 is1 is row i d r s h l =
      let n = length-same is1 is row h in
      let n' = ap length s in
      let l0 : i < length (arrival_ports (map f is0)) = rw (length-map, length-map) (omega arith) in
      let e : get_or (arrival_ports (map f is0)) i (0, 0) ≡ (f (get_or is i d)).at = ap (λ v. get_or (arrival_ports (map f v)) i (0, 0)) (sym s) ∙ place-at is1 is row i d (0, 0) h l in
      let P : ℕ × ℕ → Type 0 = λ p. (p.0 < rows) × (p.1 < links) in
      subst P e (r i l0)

  pub one-more : (is0 is : List X) (row : List Beat) (i : ℕ) (x : Beat) (d new : X) → map f is ≡ ends_after_beats (map f is0) row → i < length is → length row ≡ i
      → f new ≡ end_after_beat (f (get_or is i d)) x → map f (set is i new) ≡ ends_after_beats (map f is0) (row ++ x ∷ [])
  one-more is0 is row i x d new h l r n =
      let l0 : length row < length (map f is0) = let s = length-same is0 is row h in rw length-map (omega arith) in
      map-set f is i new
      ∙ (ap (λ w. set (map f is) i w) (n ∙ ap (λ w. end_after_beat w x) (sym (get_or-map f is i d (f d) l)))
      ∙ (ap (λ ws. set ws i (end_after_beat (get_or ws i (f d)) x)) h
      ∙ (ap (λ k. set (ends_after_beats (map f is0) row) k (end_after_beat (get_or (ends_after_beats (map f is0) row) k (f d)) x)) (sym r) ∙ fed-more (map f is0) row x (f d) l0)))

  pub names-set : (is : List X) (i : ℕ) (d new : X) → i < length is → (f new).at ≡ (f (get_or is i d)).at → (f new).ring ≡ (f (get_or is i d)).ring → names (map f (set is i new)) ≡ names (map f is)
  names-set is i d new l a r =
      let name : WireEnd A → (ℕ × ℕ) × Ring A = λ w. (w.at, w.ring) in
      let mk : ℕ × ℕ → Ring A → (ℕ × ℕ) × Ring A = λ p q. (p, q) in
      let l' : i < length (map f is) = rw length-map l in
      ap names (map-set f is i new)
      ∙ (map-set name (map f is) i (f new)
      ∙ (ap (set (names (map f is)) i) (ap₂ mk a r ∙ (ap name (sym (get_or-map f is i d (f d) l)) ∙ sym (get_or-map name (map f is) i (f d) (name (f d)) l')))
      ∙ set-get_or (names (map f is)) i (name (f d))))
