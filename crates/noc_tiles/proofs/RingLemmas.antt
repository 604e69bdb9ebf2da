-- The ends of rings go from the slots to the tiles.
use Rattle.std.proofs.Common.{◌≡◌, ◌≢◌, ◌⊎◌, inl, inr, ℕ, ◌+◌, ◌*◌, ◌/◌, ◌%◌, ◌<◌, ◌≤◌, Bool, true, false, List, [], ◌∷◌, ◌++◌, map, length, get_or, Option, Some, None, Vec, Global, vec_len, refl, ap, ap₂, sym, ◌∙◌, arith, subst, ⊎_elim}
use Rattle.std.specs.Prelude.{option_map, is_some, IfSome, MatchOption}
use Rattle.std.proofs.lemmas.Bool.{cases_lt, false≢true}
use Rattle.std.proofs.lemmas.List.{append-nil, length_push, length-map, map-append, get_or-map, get_or_append_left, get_or_push, get_or-set_other, get_or_past}
use Rattle.noc_topo.specs.Shape.{Grid, IsGrid, neighbour, nodes}
use Rattle.noc_topo.proofs.LinkLemmas.{link_back}
use Rattle.noc_packet.specs.declared.packet.Beat.{Beat}
use Rattle.noc_theory.specs.Halves.{beat_at}
use Rattle.noc_theory.proofs.runs.WireLemmas.{same-ports}
use Rattle.noc_tiles.specs.Ends.{End}
use Rattle.noc_tiles.specs.TileStep.{is_own, is_from, is_inside}
use Rattle.noc_tiles.specs.Rings.{AreLeftOut, AreSlots, AreTakenIn, AreTakenOut, GoesOutTo, IsSlot, item_at, one_of, without}
use Rattle.noc_tiles.proofs.SentLemmas.{own-true}

-- the views of slots, after one was emptied
module _ {X : Type 0} (f : X → End) where
  abbrev pub seen : List (Option X) → List (Option End)
  seen slots = map (λ (s : Option X). option_map f s) slots

  pub seen-at : (slots : List (Option X)) (k : ℕ) → get_or (seen slots) k None ≡ option_map f (get_or slots k None)
  seen-at slots k =
      ⊎_elim (λ (l : k < length slots). get_or-map (λ (s : Option X). option_map f s) slots k None None l)
      (λ (h : length slots ≤ k).
      get_or_past (seen slots) k None (let z = length-map slots (λ (s : Option X). option_map f s) in omega arith)
      ∙ ap (λ (s : Option X). option_map f s) (sym (get_or_past slots k None h)))
      (cases_lt k (length slots))

  pub seen-without : (slots : List (Option X)) (k m : ℕ) → m ≢ k → get_or (seen (without (Some k) slots)) m None ≡ get_or (seen slots) m None
  seen-without slots k m ne = seen-at (without (Some k) slots) m ∙ (ap (λ (s : Option X). option_map f s) (get_or-set_other slots k m None None ne) ∙ sym (seen-at slots m))

  -- what stood in the slot is behind the ends
  pub held-seen : (slots : List (Option X)) (k : ℕ) (e : End) → get_or (seen slots) k None ≡ Some e → map f (item_at (Some k) slots) ≡ e ∷ []
  held-seen slots k e h = at (get_or slots k None) (sym (seen-at slots k) ∙ h)
    where
      at : (s : Option X) → option_map f s ≡ Some e → map f (one_of s) ≡ e ∷ []
      at None q = absurd (cc)
      at (Some x) q = cc

pub some-of : (s : Option End) → is_some s ≡ true → (e : End) × (s ≡ Some e)
some-of None h = absurd (false≢true h)
some-of (Some e) h = (e, refl)

-- a slot with an end is there
there : {X : Type 0} (f : X → End) (slots : List (Option X)) (k : ℕ) → is_some (get_or (seen f slots) k None) ≡ true → k < length slots
there f slots k some =
    ⊎_elim (λ (l : k < length slots). l) (λ (past : length slots ≤ k). absurd (false≢true (sym (ap (λ (s : Option End). is_some s) (seen-at f slots k ∙ ap (option_map f) (get_or_past slots k None past))) ∙ some))) (cases_lt k (length slots))

last-of : {X : Type 0} (xs : List X) (x : X) (j : ℕ) → j < length (xs ++ x ∷ []) → (j < length xs) ⊎ (j ≡ length xs)
last-of xs x j l = let n = length_push xs x in grind arith

module _ (grid : Grid) (first count k : ℕ) (I : List (Option End)) (ends : List End) where
  -- no end is taken
  pub in-none : (is_inside first count (neighbour grid (k / 6) (k % 6)) ≡ true) → AreTakenIn grid first count k I ends → AreTakenIn grid first count (k + 1) I ends
  in-none inside a = record {
    each = λ j e l. let z = a.each j e l in (z.0, z.1, (let y = z.2 in omega arith), z.3, z.4);
    covers = λ m l h. ⊎_elim (λ (less : m < k). a.covers m l less) (λ (past : k ≤ m). let e : m ≡ k = omega arith in inl (ap (λ z. is_inside first count (neighbour grid (z / 6) (z % 6))) e ∙ inside)) (cases_lt m k);
  }

  -- one end more
  pub in-more : (x : End) → first * 6 ≤ k → (is_inside first count (neighbour grid (k / 6) (k % 6)) ≡ false) → get_or I k None ≡ Some x → AreTakenIn grid first count k I ends → AreTakenIn grid first count (k + 1) I (ends ++ x ∷ [])
  in-more x low outside here a = record {
    each = λ j e l.
        ⊎_elim (λ (less : j < length ends).
        let z = a.each j e less in
        (z.0, z.1, (let y = z.2 in omega arith), z.3, z.4 ∙ ap (λ (w : End). Some w) (sym (get_or_append_left ends (x ∷ []) e j less))))
        (λ (last : j ≡ length ends). (k, low, omega arith, outside, here ∙ ap (λ (w : End). Some w) (sym (get_or_push ends x e j (sym last)))))
        (last-of ends x j l);
    covers = λ m l h.
        ⊎_elim (λ (less : m < k).
        ⊎_elim (λ z. inl z)
        (λ z. inr (z.0, (let y = z.1 in let n = length_push ends x in omega arith), λ e. z.2 e ∙ ap (λ (w : End). Some w) (sym (get_or_append_left ends (x ∷ []) e z.0 z.1))))
        (a.covers m l less))
        (λ (past : k ≤ m).
        let e' : m ≡ k = omega arith in
        inr (length ends, (let n = length_push ends x in omega arith), λ e. ap (λ z. get_or I z None) e' ∙ (here ∙ ap (λ (w : End). Some w) (sym (get_or_push ends x e (length ends) refl)))))
        (cases_lt m k);
  }

-- one end more of the wires that go
module _ (grid : Grid) (sound : IsGrid grid) (first count k : ℕ) (O : List (Option End)) (ends : List End) (k_in : k < nodes grid * 6) where
  pub out-none : (is_inside first count (neighbour grid (k / 6) (k % 6)) ≡ true) → AreTakenOut grid first count k O ends → AreTakenOut grid first count (k + 1) O ends
  out-none inside a = record {
    each = a.each;
    covers = λ m r q l h to other.
        ⊎_elim (λ (less : m < k). a.covers m r q l less to other)
        (λ (past : k ≤ m).
        let e : m ≡ k = omega arith in
        absurd (false≢true (sym other ∙ (ap (is_inside first count) (sym to) ∙ (ap (λ z. is_inside first count (neighbour grid (z / 6) (z % 6))) e ∙ inside)))))
        (cases_lt m k);
  }

  pub out-more : (x : End) (at : ℕ) → first * 6 ≤ k → k < (first + count) * 6 → (w : GoesOutTo grid first count k at) → get_or O at None ≡ Some x → is_own first count (k / 6) ≡ true → AreTakenOut grid first count k O ends → AreTakenOut grid first count (k + 1) O (ends ++ x ∷ [])
  out-more x at low high w here own a =
      let s_in : k / 6 < nodes grid = omega arith in
      let back = link_back grid (k / 6) (k % 6) w.r w.q sound s_in w.to in
      record {
        each = λ j e l.
            ⊎_elim (λ (less : j < length ends).
            let z = a.each j e less in
            (z.0, z.1, z.2, z.3, z.4, z.5, z.6 ∙ ap (λ (v : End). Some v) (sym (get_or_append_left ends (x ∷ []) e j less))))
            (λ (last : j ≡ length ends).
            (w.r, w.q, w.node, w.port, w.other, ap (is_from first count) back.back ∙ own, ap (λ z. get_or O z None) (sym w.is) ∙ (here ∙ ap (λ (v : End). Some v) (sym (get_or_push ends x e j (sym last))))))
            (last-of ends x j l);
        covers = λ m r q l h to other.
            ⊎_elim (λ (less : m < k).
            let z = a.covers m r q l less to other in
            (z.0, (let y = z.1 in let n = length_push ends x in omega arith), λ e. z.2 e ∙ ap (λ (v : End). Some v) (sym (get_or_append_left ends (x ∷ []) e z.0 z.1))))
            (λ (past : k ≤ m).
            let e' : m ≡ k = omega arith in
            let p = same-ports r q w.r w.q (sym to ∙ (ap (λ z. neighbour grid (z / 6) (z % 6)) e' ∙ w.to)) in
            let i : r * 6 + q ≡ at = ap₂ (λ u v. u * 6 + v) p.0 p.1 ∙ sym w.is in
            (length ends, (let n = length_push ends x in omega arith), λ e. ap (λ z. get_or O z None) i ∙ (here ∙ ap (λ (v : End). Some v) (sym (get_or_push ends x e (length ends) refl)))))
            (cases_lt m k);
      }

-- a ring more
pub slots-more : (grid : Grid) (workers : ℕ) (wires : List (List Beat)) (k : ℕ) (I O : List (Option End)) (i o : Option End) → AreSlots grid workers wires k I O → IsSlot grid workers (k / 6) (k % 6) (beat_at wires (k / 6) (k % 6)) i o → AreSlots grid workers wires (k + 1) (I ++ i ∷ []) (O ++ o ∷ [])
slots-more grid workers wires k I O i o a s =
    record {
      ins = length_push I i ∙ ap (λ z. z + 1) a.ins;
      outs = length_push O o ∙ ap (λ z. z + 1) a.outs;
      each = λ m l.
          ⊎_elim (λ (less : m < k).
          let x = get_or_append_left I (i ∷ []) None m (let z = a.ins in omega arith) in
          let y = get_or_append_left O (o ∷ []) None m (let z = a.outs in omega arith) in
          subst (λ (q : Option End). IsSlot grid workers (m / 6) (m % 6) (beat_at wires (m / 6) (m % 6)) (get_or (I ++ i ∷ []) m None) q) (sym y)
          (subst (λ (q : Option End). IsSlot grid workers (m / 6) (m % 6) (beat_at wires (m / 6) (m % 6)) q (get_or O m None)) (sym x) (a.each m less)))
          (λ (past : k ≤ m).
          let e : k ≡ m = omega arith in
          let x = get_or_push I i None m (a.ins ∙ e) in
          let y = get_or_push O o None m (a.outs ∙ e) in
          subst (λ (q : Option End). IsSlot grid workers (m / 6) (m % 6) (beat_at wires (m / 6) (m % 6)) (get_or (I ++ i ∷ []) m None) q) (sym y)
          (subst (λ (q : Option End). IsSlot grid workers (m / 6) (m % 6) (beat_at wires (m / 6) (m % 6)) q o) (sym x)
          (subst (λ (z : ℕ). IsSlot grid workers (z / 6) (z % 6) (beat_at wires (z / 6) (z % 6)) i o) e s)))
          (cases_lt m k);
    }

-- ---- a step of the loops

module _ {X : Type 0} (f : X → End) (grid : Grid) (first count k : ℕ) (I : List (Option End)) (slots slots' : List (Option X)) (ends ends' : List X) where
  abbrev inside : Bool
  inside = is_inside first count (neighbour grid (k / 6) (k % 6))

  abbrev Rest : ℕ → List (Option X) → Type 0
  Rest from now = (m : ℕ) → from ≤ m → get_or (seen f now) m None ≡ get_or I m None

  pub in-step : (at : Option ℕ) → MatchOption at (is_inside first count (neighbour grid (k / 6) (k % 6)) ≡ true) (λ a. (a ≡ k) × (is_inside first count (neighbour grid (k / 6) (k % 6)) ≡ false))
      → first * 6 ≤ k → (is_inside first count (neighbour grid (k / 6) (k % 6)) ≡ false → is_some (get_or I k None) ≡ true)
      → AreTakenIn grid first count k I (map f ends) → ((m : ℕ) → k ≤ m → get_or (seen f slots) m None ≡ get_or I m None) → slots' ≡ without at slots → ends' ≡ ends ++ item_at at slots
      → AreTakenIn grid first count (k + 1) I (map f ends') × ((m : ℕ) → k + 1 ≤ m → get_or (seen f slots') m None ≡ get_or I m None)
  in-step None n low some taken rest e h =
      let same : ends ≡ ends' = sym (append-nil ends) ∙ sym h in (
        subst (λ (v : List X). AreTakenIn grid first count (k + 1) I (map f v)) same (in-none grid first count k I (map f ends) n taken),
        λ m l. ap (λ (v : List (Option X)). get_or (seen f v) m None) e ∙ rest m (omega arith),
      )
  in-step (Some a) s low some taken rest e h =
      let x = some-of (get_or I k None) (some s.1) in
      let here : get_or (seen f slots) k None ≡ Some x.0 = rest k (omega arith) ∙ x.1 in
      let one : map f (item_at (Some a) slots) ≡ x.0 ∷ [] = ap (λ z. map f (item_at (Some z) slots)) s.0 ∙ held-seen f slots k x.0 here in
      let all : map f ends ++ x.0 ∷ [] ≡ map f ends' = ap (λ z. map f ends ++ z) (sym one) ∙ (sym (map-append f ends (item_at (Some a) slots)) ∙ ap (map f) (sym h)) in (
        subst (AreTakenIn grid first count (k + 1) I) all (in-more grid first count k I (map f ends) x.0 low s.1 x.1 taken),
        λ m l. ap (λ (v : List (Option X)). get_or (seen f v) m None) e ∙ (ap (λ z. get_or (seen f (without (Some z) slots)) m None) s.0 ∙ (seen-without f slots k m (λ z. absurd (omega arith)) ∙ rest m (omega arith))),
      )

-- the slot from which an end is taken is there
pub in-there : {X : Type 0} (f : X → End) (grid : Grid) (first count k : ℕ) (I : List (Option End)) (slots : Vec (Option X) Global) (at : Option ℕ)
    → MatchOption at (is_inside first count (neighbour grid (k / 6) (k % 6)) ≡ true) (λ a. (a ≡ k) × (is_inside first count (neighbour grid (k / 6) (k % 6)) ≡ false)) → (is_inside first count (neighbour grid (k / 6) (k % 6)) ≡ false → is_some (get_or I k None) ≡ true)
    → ((m : ℕ) → k ≤ m → get_or (seen f slots.items) m None ≡ get_or I m None) → IfSome at (λ a. a < vec_len slots)
in-there f grid first count k I slots None s some rest = tt
in-there f grid first count k I slots (Some a) s some rest =
    let l = there f slots.items k (ap (λ (s : Option End). is_some s) (rest k (omega arith)) ∙ some s.1) in omega (arith, l, s.0, slots.ok.0)

pub out-there : {X : Type 0} (f : X → End) (grid : Grid) (first count k : ℕ) (O : List (Option End)) (slots : Vec (Option X) Global) (k_in : k < nodes grid * 6) (at : Option ℕ)
    → MatchOption at (is_inside first count (neighbour grid (k / 6) (k % 6)) ≡ true) (GoesOutTo grid first count k) → ((a : ℕ) → GoesOutTo grid first count k a → is_some (get_or O a None) ≡ true)
    → AreLeftOut grid k O (seen f slots.items) → IfSome at (λ a. a < vec_len slots)
out-there f grid first count k O slots k_in None s some rest = tt
out-there f grid first count k O slots k_in (Some a) s some rest =
    let now : get_or (seen f slots.items) a None ≡ get_or O a None = ap (λ z. get_or (seen f slots.items) z None) s.is ∙ (rest (k / 6) (k % 6) s.r s.q (omega arith) (omega arith) s.to (omega arith) ∙ ap (λ z. get_or O z None) (sym s.is)) in
    let l = there f slots.items a (ap (λ (s : Option End). is_some s) now ∙ some a s) in omega (arith, l, slots.ok.0)

module _ {X : Type 0} (f : X → End) (grid : Grid) (sound : IsGrid grid) (first count k : ℕ) (O : List (Option End)) (slots slots' : List (Option X)) (ends ends' : List X) (k_in : k < nodes grid * 6) where
  -- a place to which two ports go
  same-goal : (s p r q at : ℕ) → s < nodes grid → p < 6 → neighbour grid s p ≡ Some (r, q) → GoesOutTo grid first count k at → r * 6 + q ≡ at → s * 6 + p ≡ k
  same-goal s p r q at sl pl to w e =
      let one = link_back grid s p r q sound sl to in
      let two = link_back grid (k / 6) (k % 6) w.r w.q sound (omega arith) w.to in
      let few = sound.few_dimensions in
      let q_in : q < 6 = let z = one.port in omega arith in
      let wq = w.port in
      let wi = w.is in
      let er : r ≡ w.r = omega arith in
      let eq : q ≡ w.q = omega arith in
      let z = same-ports s p (k / 6) (k % 6) (sym one.back ∙ (ap₂ (neighbour grid) er eq ∙ two.back)) in
      let z0 = z.0 in
      let z1 = z.1 in
      omega arith

  pub out-step : (at : Option ℕ) → MatchOption at (is_inside first count (neighbour grid (k / 6) (k % 6)) ≡ true) (GoesOutTo grid first count k)
      → first * 6 ≤ k → k < (first + count) * 6 → ((a : ℕ) → GoesOutTo grid first count k a → is_some (get_or O a None) ≡ true)
      → AreTakenOut grid first count k O (map f ends) → AreLeftOut grid k O (seen f slots) → slots' ≡ without at slots → ends' ≡ ends ++ item_at at slots
      → AreTakenOut grid first count (k + 1) O (map f ends') × AreLeftOut grid (k + 1) O (seen f slots')
  out-step None n low high some taken rest e h =
      let same : ends ≡ ends' = sym (append-nil ends) ∙ sym h in (
        subst (λ (v : List X). AreTakenOut grid first count (k + 1) O (map f v)) same (out-none grid sound first count k O (map f ends) k_in n taken),
        λ u p r q ul pl to l. ap (λ (v : List (Option X)). get_or (seen f v) (r * 6 + q) None) e ∙ rest u p r q ul pl to (omega arith),
      )
  out-step (Some a) s low high some taken rest e h =
      let x = some-of (get_or O a None) (some a s) in
      let now : get_or (seen f slots) a None ≡ get_or O a None = ap (λ z. get_or (seen f slots) z None) s.is ∙ (rest (k / 6) (k % 6) s.r s.q (omega arith) (omega arith) s.to (omega arith) ∙ ap (λ z. get_or O z None) (sym s.is)) in
      let one : map f (item_at (Some a) slots) ≡ x.0 ∷ [] = held-seen f slots a x.0 (now ∙ x.1) in
      let all : map f ends ++ x.0 ∷ [] ≡ map f ends' = ap (λ z. map f ends ++ z) (sym one) ∙ (sym (map-append f ends (item_at (Some a) slots)) ∙ ap (map f) (sym h)) in
      let own : is_own first count (k / 6) ≡ true = own-true first count (k / 6) (omega arith) (omega arith) in (
        subst (AreTakenOut grid first count (k + 1) O) all (out-more grid sound first count k O (map f ends) k_in x.0 a low high s x.1 own taken),
        λ u p r q ul pl to l.
            ap (λ (v : List (Option X)). get_or (seen f v) (r * 6 + q) None) e
            ∙ (seen-without f slots a (r * 6 + q) (λ z. let y = same-goal u p r q a ul pl to s z in absurd (omega arith)) ∙ rest u p r q ul pl to (omega arith)),
      )
