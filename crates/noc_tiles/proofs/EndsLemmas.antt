-- One more ring is emptied.
use Rattle.std.proofs.Common.{◌≡◌, ◌≢◌, ◌⊎◌, inl, inr, ℕ, ◌+◌, ◌<◌, Bool, List, [], ◌∷◌, ◌++◌, map, length, get_or, ap, ap₂, sym, ◌∙◌, arith, subst, below_more}
use Rattle.std.specs.Prelude.{nat_eq, ◌&&◌, if◌then◌else◌}
use Rattle.std.proofs.lemmas.Bool.Decides.{eqb_tells}
use Rattle.std.proofs.lemmas.List.{get_or-map, length-map}
use Rattle.noc_packet.specs.declared.packet.Beat.{Beat}
use Rattle.noc_theory.specs.Halves.{beat_at}
use Rattle.noc_tiles.specs.Ends.{WireEnd, End}
use Rattle.noc_tiles.specs.Rings.{AreEnds, CanEmpty, Empties, Left}
use Rattle.noc_tiles.proofs.ClearLemmas.{place_at}
use Rattle.noc_tiles.specs.TileStep.{with_beat}
use Rattle.noc_tiles.proofs.TileStepLemmas.{Tells}

module _ (I O : List End) (i : ℕ) (old bs new : List (List Beat)) (a p : ℕ) (x : Beat) (place : (d : End) → (get_or I i d).at ≡ (a, p)) (size : length new ≡ length bs) (now : (r q : ℕ) → beat_at new r q ≡ with_beat (beat_at bs) (a, p) x r q) (left : Left I O i x) where
  abbrev Case : List (List Beat) → ℕ → ℕ → ℕ → Type 0
  Case now n r q =
      ((j : ℕ) × (j < n) × ((d : End) → (get_or I j d).at ≡ (r, q)) × Left I O j (beat_at now r q))
      ⊎ (((j : ℕ) (d : End) → j < n → (get_or I j d).at ≢ (r, q)) × (beat_at now r q ≡ beat_at old r q))

  abbrev test : ℕ → ℕ → Bool → Bool → Beat
  test r q s t = if s && t then x else beat_at bs r q

  kept : (r q : ℕ) → beat_at new r q ≡ beat_at bs r q → place_at r q ≢ place_at a p → Case bs i r q → Case new (i + 1) r q
  kept r q same ne (inl h) =
      let P : Beat → Type 0 = Left I O h.0 in
      inl (h.0, (let z = h.1 in omega arith), h.2, subst P (sym same) h.3)
  kept r q same ne (inr h) =
      inr ((λ j d k. let Q : ℕ → Type 0 = λ j. (get_or I j d).at ≢ (r, q) in below_more Q i (λ j' k'. h.0 j' d k') (λ e. ne (sym e ∙ place d)) j k), same ∙ h.1)

  one-wire : (r q : ℕ) → Case bs i r q → Case new (i + 1) r q
  one-wire r q = at (eqb_tells r a) (eqb_tells q p)
    where
      at : Tells r a → Tells q p → Case bs i r q → Case new (i + 1) r q
      at (inl e) (inl f) h =
          let P : Beat → Type 0 = Left I O i in
          inl (i, omega arith, (λ d. place d ∙ ap₂ place_at (sym e.1) (sym f.1)), subst P (sym (now r q ∙ ap₂ (test r q) e.0 f.0)) left)
      at (inl e) (inr f) h = kept r q (now r q ∙ ap₂ (test r q) e.0 f.0) (λ z. f.1 (ap (λ (w : ℕ × ℕ). w.1) z)) h
      at (inr e) f h = kept r q (now r q ∙ ap (λ s. test r q s (nat_eq q p)) e.0) (λ z. e.1 (ap (λ (w : ℕ × ℕ). w.0) z)) h

  pub empties-more : Empties I O i old bs → Empties I O (i + 1) old new
  empties-more c = record {
    same = size ∙ c.same;
    left = λ j h. let Q : ℕ → Type 0 = λ j. (y : Beat) × Left I O j y in below_more Q i c.left (x, left) j h;
    wires = λ r q. one-wire r q (c.wires r q);
  }

-- an end in the middle of the loop: it is still as it was at the start
pub view-rest : {X A : Type 0} (f : X → WireEnd A) (is is1 is0 : List X) (i : ℕ) (x : X) (e : WireEnd A) → is1 ≡ is0 → get_or is i x ≡ get_or is1 i x → i < length is0 → get_or (map f is0) i e ≡ f (get_or is i x)
view-rest f is is1 is0 i x e s r l = get_or-map f is0 i x e l ∙ ap f (ap (λ q. get_or q i x) (sym s) ∙ sym r)

pub view-at : {X A : Type 0} (f : X → WireEnd A) (xs xs0 : List X) (i : ℕ) (x : X) (e : WireEnd A) → map f xs ≡ map f xs0 → i < length xs → get_or (map f xs0) i e ≡ f (get_or xs i x)
view-at f xs xs0 i x e h l = ap (λ q. get_or q i e) (sym h) ∙ get_or-map f xs i x e l

pub length-views : {X A : Type 0} (f : X → WireEnd A) (xs xs0 : List X) → map f xs ≡ map f xs0 → length xs ≡ length xs0
length-views f xs xs0 h = sym (length-map xs f) ∙ (ap length h ∙ length-map xs0 f)

pub meets : (rows : ℕ) (I O : List End) → CanEmpty rows I O → (i o : ℕ) (v w : End) → i < length I → o < length O → get_or I i w ≡ v → get_or O o w ≡ w → w.at ≡ v.at
    → AreEnds v w
meets rows I O c i o v w il ol vi wo a =
    let r = c.rings i o w il ol (ap (λ (q : End). q.at) wo ∙ (a ∙ ap (λ (q : End). q.at) (sym vi))) in
    subst (λ (q : End). AreEnds v q) wo (subst (λ (q : End). AreEnds q (get_or O o w)) vi r)

pub leaves : (I O : List End) (i o : ℕ) (x : Beat) (v w : End) → o < length O → ((d : End) → get_or I i d ≡ v) → ((d : End) → get_or O o d ≡ w) → w.at ≡ v.at → w.past ≡ v.past ++ x ∷ [] → Left I O i x
leaves I O i o x v w ol vi wo a f = (
  o,
  ol,
  λ d. (
    ap (λ (q : End). q.at) (wo d) ∙ (a ∙ ap (λ (q : End). q.at) (sym (vi d))),
    ap (λ (q : End). q.past) (wo d) ∙ (f ∙ ap (λ (q : End). q.past ++ x ∷ []) (sym (vi d))),
  ),
)

-- an element of a list that has one
pub some_item : {X : Type 0} (xs : List X) (i : ℕ) → i < length xs → X
some_item [] i l = absurd (omega arith)
some_item (x ∷ xs) i l = x
