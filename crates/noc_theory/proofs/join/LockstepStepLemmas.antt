-- A step that moves flits: what it leaves of the flits of a packet.
use Rattle.std.proofs.Common.{◌≡◌, ◌+◌, ◌<◌, Bool, true, false, cond, List, [], ◌∷◌, ◌++◌, map, refl, ap, sym, ◌∙◌, inl, inr, arith, zero-add}
use Rattle.std.specs.Prelude.{filter, ◌⊎◌, count_by, ◌||◌}
use Rattle.std.proofs.lemmas.List.Sums.{sum_by-append}
use Rattle.noc_theory.proofs.Common.{list_any, true≢false, Has, Pairs, Located}
use Rattle.noc_theory.proofs.worms.MemberLemmas.{each-at}
use Rattle.noc_theory.proofs.worms.StateWordLemmas.{IsSortedPair}

pub count-cons : {X : Type 0} (t : X → Bool) (x : X) (xs : List X) → count_by t (x ∷ xs) ≡ cond (t x) 1 0 + count_by t xs
count-cons t x xs = sum_by-append (λ y. cond (t y) 1 0) (x ∷ []) xs ∙ ap (λ k. k + count_by t xs) (zero-add (cond (t x) 1 0))

-- where none is counted none passes
pub count-zero : {X : Type 0} (t : X → Bool) (xs : List X) (x : X) → count_by t xs ≡ 0 → Has x xs → t x ≡ false
count-zero t [] x e h = elim h [ ]
count-zero t (y ∷ ys) x e (inl s) = at (t y) refl (sym (count-cons t y ys) ∙ e)
  where
    at : (b : Bool) → t y ≡ b → cond b 1 0 + count_by t ys ≡ 0 → t x ≡ false
    at false k z = ap t s ∙ k
    at true k z = absurd (omega (arith, z))
count-zero t (y ∷ ys) x e (inr h) = count-zero t ys x (let k : cond (t y) 1 0 + count_by t ys ≡ 0 = sym (count-cons t y ys) ∙ e in omega (arith, k)) h

-- what is counted of the flits that pass q is as many after the step
pub count-step : (t u q : Located → Bool) (step : Located → Located) → ((f : Located) → q (step f) ≡ q f) → (xs : List Located)
    → ((f : Located) → Has f xs → q f ≡ true → t (step f) ≡ u f) → count_by t (filter q (map step xs)) ≡ count_by u (filter q xs)
count-step t u q step keeps [] same = refl
count-step t u q step keeps (x ∷ xs) same = at (q x) refl (count-step t u q step keeps xs (λ f h k. same f (inr h) k))
  where
    at : (b : Bool) → q x ≡ b → count_by t (filter q (map step xs)) ≡ count_by u (filter q xs) → count_by t (filter q (map step (x ∷ xs))) ≡ count_by u (filter q (x ∷ xs))
    at true e rest = rw (keeps x, e) whole
      where
        more : (a b : Bool) → a ≡ b → cond a 1 0 + count_by t (filter q (map step xs)) ≡ cond b 1 0 + count_by u (filter q xs)
        more a b k = ap (λ y. cond y 1 0 + count_by t (filter q (map step xs))) k ∙ ap (λ y. cond b 1 0 + y) rest

        whole : count_by t (step x ∷ filter q (map step xs)) ≡ count_by u (x ∷ filter q xs)
        whole = count-cons t (step x) (filter q (map step xs)) ∙ more (t (step x)) (u x) (same x (inl refl) e) ∙ sym (count-cons u x (filter q xs))
    at false e rest = rw (keeps x, e) rest

-- whether a flit passes q is as before the step
pub any-step : (t u q : Located → Bool) (step : Located → Located) → ((f : Located) → q (step f) ≡ q f) → (xs : List Located)
    → ((f : Located) → Has f xs → q f ≡ true → t (step f) ≡ u f) → list_any t (filter q (map step xs)) ≡ list_any u (filter q xs)
any-step t u q step keeps [] same = refl
any-step t u q step keeps (x ∷ xs) same = at (q x) refl (any-step t u q step keeps xs (λ f h k. same f (inr h) k))
  where
    at : (b : Bool) → q x ≡ b → list_any t (filter q (map step xs)) ≡ list_any u (filter q xs) → list_any t (filter q (map step (x ∷ xs))) ≡ list_any u (filter q (x ∷ xs))
    at true e rest = rw (keeps x, e) (ap (λ y. y || list_any t (filter q (map step xs))) (same x (inl refl) e) ∙ ap (λ y. u x || y) rest)
    at false e rest = rw (keeps x, e) rest

-- ---- one flit comes to those that pass, as the last of them
module _ (hit : Located → Bool) (step : Located → Located) (last : Located) where
  filter-none : (xs : List Located) → ((g : Located) → Has g xs → hit g ≡ false) → filter hit xs ≡ []
  filter-none [] never = refl
  filter-none (x ∷ xs) never = rw (never x (inl refl)) (filter-none xs (λ g h. never g (inr h)))

  map-none : (xs : List Located) → ((g : Located) → Has g xs → hit (step g) ≡ false) → filter hit (map step xs) ≡ []
  map-none [] never = refl
  map-none (x ∷ xs) never = rw (never x (inl refl)) (map-none xs (λ g h. never g (inr h)))

  pub filter-last : (xs : List Located) → Pairs IsSortedPair xs → Has last xs → hit last ≡ false → hit (step last) ≡ true
      → ((g : Located) → Has g xs → hit g ≡ true → (step g ≡ g) × (g.packet ≡ last.packet) × (g.index < last.index))
      → ((g : Located) → Has g xs → hit g ≡ false → (g ≡ last) ⊎ (hit (step g) ≡ false)) → filter hit (map step xs) ≡ filter hit xs ++ step last ∷ []
  filter-last [] sorted h off on kept missed = elim h [ ]
  filter-last (x ∷ xs) sorted h off on kept missed = at (hit x) refl
      (λ k. filter-last xs sorted.1 k off on (λ g m. kept g (inr m)) (λ g m. missed g (inr m)))
    where
      behind : x ≡ last → (g : Located) → Has g xs → (hit g ≡ false) × (hit (step g) ≡ false)
      behind e g m = both (hit g) refl
        where
          rises : x.packet ≡ g.packet → x.index < g.index
          rises = each-at (IsSortedPair x) xs g sorted.0 m

          both : (b : Bool) → hit g ≡ b → (hit g ≡ false) × (hit (step g) ≡ false)
          both true k =
              let r = kept g (inr m) k in
              let l = rises (ap (λ (y : Located). y.packet) e ∙ sym r.1) in
              let i : x.index ≡ last.index = ap (λ (y : Located). y.index) e in
              absurd (omega (arith, l, i, r.2))
          both false k = (k, by (missed g (inr m) k))
            where
              by : (g ≡ last) ⊎ (hit (step g) ≡ false) → hit (step g) ≡ false
              by (inr z) = z
              by (inl z) =
                  let l = rises (ap (λ (y : Located). y.packet) (e ∙ sym z)) in
                  let i : x.index ≡ g.index = ap (λ (y : Located). y.index) (e ∙ sym z) in
                  absurd (omega (arith, l, i))

      here : x ≡ last → filter hit (map step (x ∷ xs)) ≡ filter hit (x ∷ xs) ++ step last ∷ []
      here e =
          let on_x : hit (step x) ≡ true = ap (λ (y : Located). hit (step y)) e ∙ on in
          let off_x : hit x ≡ false = ap hit e ∙ off in
          let rest : filter hit (map step xs) ≡ [] = map-none xs (λ g m. (behind e g m).1) in
          let none : filter hit xs ≡ [] = filter-none xs (λ g m. (behind e g m).0) in
          rw (on_x, off_x) (ap (λ (ys : List Located). step x ∷ ys) rest ∙ ap (λ (y : Located). step y ∷ []) e ∙ sym (ap (λ (ys : List Located). ys ++ step last ∷ []) none))

      later : (x ≡ last → ⊥) → Has last xs
      later other = which h
        where
          which : Has last (x ∷ xs) → Has last xs
          which (inl e) = absurd (other (sym e))
          which (inr k) = k

      at : (b : Bool) → hit x ≡ b → (Has last xs → filter hit (map step xs) ≡ filter hit xs ++ step last ∷ []) → filter hit (map step (x ∷ xs)) ≡ filter hit (x ∷ xs) ++ step last ∷ []
      at true e rest =
          let same : step x ≡ x = (kept x (inl refl) e).0 in
          let on_x : hit (step x) ≡ true = ap hit same ∙ e in
          rw (on_x, e) (ap (λ (y : Located). y ∷ filter hit (map step xs)) same ∙ ap (λ (ys : List Located). x ∷ ys) (rest (later (λ z. true≢false (sym e ∙ ap hit z ∙ off)))))
      at false e rest = by (missed x (inl refl) e)
        where
          by : (x ≡ last) ⊎ (hit (step x) ≡ false) → filter hit (map step (x ∷ xs)) ≡ filter hit (x ∷ xs) ++ step last ∷ []
          by (inl z) = here z
          by (inr z) = rw (z, e) (rest (later (λ y. true≢false (sym (ap (λ (g : Located). hit (step g)) y ∙ on) ∙ z))))
