-- Lists of sets that are kept by the number of their kind.
use Rattle.std.proofs.Common.{◌≡◌, ◌≢◌, ◌⊎◌, ℕ, ◌+◌, ◌<◌, ◌≤◌, ◌∙◌, List, [], ◌∷◌, length, get_or, take, set, arith, inl, inr, subst, sym, below_more, refl}
use Rattle.std.proofs.lemmas.Bool.{cases_lt}
use Rattle.std.proofs.lemmas.List.{ext_get_or, length-map, get_or-map, get_or-set_same, get_or-set_other, get_or-take, length-take-le}
use Rattle.noc_route.specs.Listed.{AreNumbered, AreNumbers, listed}

-- the set of a kind stays where one more is written that is new, or is what stands there
kind-kept : (kinds : List ℕ) (number s count k : ℕ) → k < count → number < length kinds → (number < count → get_or kinds number 0 ≡ s) → get_or (set kinds number s) k 0 ≡ get_or kinds k 0
kind-kept kinds number s count k l there same = at (cases_lt k number) (cases_lt number k)
  where
    other : k ≢ number → get_or (set kinds number s) k 0 ≡ get_or kinds k 0
    other apart = get_or-set_other kinds number k s 0 apart

    at : (k < number) ⊎ (number ≤ k) → (number < k) ⊎ (k ≤ number) → get_or (set kinds number s) k 0 ≡ get_or kinds k 0
    at (inl less) _ = other (omega (arith, less))
    at (inr _) (inl more) = other (omega (arith, more))
    at (inr no_less) (inr no_more) =
        let is : number ≡ k = omega (arith, no_less, no_more) in
        subst (λ i. get_or (set kinds number s) i 0 ≡ get_or kinds i 0) is (get_or-set_same kinds number s 0 there ∙ sym (same (omega (arith, is, l))))

-- one more set is of a kind that has a number, or of a new one
pub numbered-more : (sets kinds numbers : List ℕ) (place count number s next : ℕ) → place < length numbers → number < length kinds → number ≤ count
    → (number < count → get_or kinds number 0 ≡ s) → s ≡ get_or sets place 0 → count ≤ next → number < next → next ≤ place + 1
    → AreNumbered sets kinds numbers place count → AreNumbered sets (set kinds number s) (set numbers place number) (place + 1) next
numbered-more sets kinds numbers place count number s next inside there order same is more last close h =
    record {
      few = close;
      within =
          below_more (λ j. get_or new j 0 < next) place
          (λ j l. subst (λ k. k < next) (sym (kept j l)) (omega (arith, h.within j l, more)))
          (subst (λ k. k < next) (sym here) last);
      same =
          below_more (λ j. get_or after (get_or new j 0) 0 ≡ get_or sets j 0) place
          (λ j l. subst (λ k. get_or after k 0 ≡ get_or sets j 0) (sym (kept j l)) (kind-kept kinds number s count (get_or numbers j 0) (h.within j l) there same ∙ h.same j l))
          (subst (λ k. get_or after k 0 ≡ get_or sets place 0) (sym here) (get_or-set_same kinds number s 0 there ∙ is));
    }
  where
    new : List ℕ
    new = set numbers place number

    after : List ℕ
    after = set kinds number s

    kept : (j : ℕ) → j < place → get_or new j 0 ≡ get_or numbers j 0
    kept j l = get_or-set_other numbers place j number 0 (omega (arith, l))

    here : get_or new place 0 ≡ number
    here = get_or-set_same numbers place number 0 inside

-- without numbers they are the sets, and else one set for each number
pub listed-none : (sets numbers : List ℕ) → length numbers ≡ 0 → listed sets numbers ≡ sets
listed-none sets [] none = refl
listed-none sets (n ∷ ns) none = absurd (omega (arith, none))

pub listed-long : (sets numbers : List ℕ) → length numbers ≢ 0 → length (listed sets numbers) ≡ length numbers
listed-long sets [] some = absurd (some refl)
listed-long sets (n ∷ ns) some = length-map (n ∷ ns) (λ k. get_or sets k 0)

pub listed-at : (sets numbers : List ℕ) (place : ℕ) → place < length numbers → get_or (listed sets numbers) place 0 ≡ get_or sets (get_or numbers place 0) 0
listed-at sets [] place l = absurd (omega (arith, l))
listed-at sets (n ∷ ns) place l = get_or-map (λ k. get_or sets k 0) (n ∷ ns) place 0 0 l

-- the sets that have these numbers are all sets
pub listed-all : (sets kinds numbers : List ℕ) (count : ℕ) → length numbers ≡ length sets → count ≤ length kinds → AreNumbered sets kinds numbers (length sets) count
    → listed (take count kinds) numbers ≡ sets
listed-all sets kinds [] count long room h =
    let short : length (take count kinds) ≡ count = length-take-le count kinds room in
    ext_get_or 0 (take count kinds) sets (omega (arith, short, long, h.few)) (λ i l. omega (arith, l, short, long, h.few))
listed-all sets kinds (n ∷ ns) count long room h =
    ext_get_or 0 (listed (take count kinds) (n ∷ ns)) sets (length-map (n ∷ ns) (λ k. get_or (take count kinds) k 0) ∙ long) (λ i l.
    let inside : i < length (n ∷ ns) = subst (λ m. i < m) (length-map (n ∷ ns) (λ k. get_or (take count kinds) k 0)) l in
    let there : i < length sets = subst (λ m. i < m) long inside in
    get_or-map (λ k. get_or (take count kinds) k 0) (n ∷ ns) i 0 0 inside
    ∙ get_or-take count kinds (get_or (n ∷ ns) i 0) 0 (h.within i there)
    ∙ h.same i there)

-- and each number is that of a kind
pub are-numbers : (sets kinds numbers : List ℕ) (count : ℕ) → length numbers ≡ length sets → count ≤ length kinds → AreNumbered sets kinds numbers (length sets) count
    → AreNumbers (take count kinds) numbers
are-numbers sets kinds numbers count long room h j l =
    let short : length (take count kinds) ≡ count = length-take-le count kinds room in
    omega (arith, h.within j (subst (λ m. j < m) long l), short)
