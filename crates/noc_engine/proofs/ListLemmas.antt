-- Where a router stands in its block, what stands in lists, and lists in which one item after the other
-- is written.
use Rattle.std.proofs.Common.{◌≡◌, ◌≢◌, ℕ, ◌+◌, ◌-◌, ◌*◌, ◌/◌, ◌%◌, ◌<◌, ◌≤◌, List, [], ◌++◌, Some, length, map, length-append, get_or, take, drop, set as write, ap, sym, ◌∙◌, subst, refl, arith, inl, inr}
use Rattle.std.specs.Prelude.{◌⊎◌, Err, IsOk, Ok, OnOk, Option, Result, is_ok, slice_get, if◌then◌else◌}
use Rattle.std.proofs.lemmas.Bool.{cases_eq, cases_lt}
use Rattle.std.proofs.lemmas.List.{get_or-append_right, get_or-drop, get_or-set_other, get_or-set_same, get_or-take, get_or_append_left, length-drop, length-map, length-set, length-take-le}
use Rattle.std.proofs.lemmas.Option.{get_or_from_slice_get, slice_get-get_or, slice_get_cases, slice_get_past, slice_get_read, slice_get_within}

-- ---- a router, by its block and its place there
pub block-of : (b r : ℕ) → r < 64 → (64 * b + r) / 64 ≡ b
block-of b r l = omega (arith, l)

pub place-of : (b r : ℕ) → r < 64 → (64 * b + r) % 64 ≡ r
place-of b r l = omega (arith, l)

-- ---- what stands in a list
pub there : {A : Type 0} (xs : List A) (i : ℕ) → i < length xs → (x : A) × (slice_get xs i ≡ Some x)
there xs i l = elim (slice_get_cases xs i).1 [
  | inl (x, inside, is, same) ↦ (x, is)
  | inr (past, none) ↦ absurd (omega (arith, l, past))
]

-- .. in so many items from one on
pub some-long : {A : Type 0} (xs : List A) (first many : ℕ) → first + many ≤ length xs → length (take many (drop first xs)) ≡ many
some-long xs first many within = length-take-le many (drop first xs) (omega (arith, length-drop first xs, within))

pub some-item : {A : Type 0} (xs : List A) (first many i : ℕ) (d : A) → i < many → get_or (take many (drop first xs)) i d ≡ get_or xs (first + i) d
some-item xs first many i d l = get_or-take many (drop first xs) i d l ∙ get_or-drop first xs i d

pub some-there : {A : Type 0} (xs : List A) (first many i : ℕ) (x : A) → first + many ≤ length xs → slice_get (take many (drop first xs)) i ≡ Some x → slice_get xs (first + i) ≡ Some x
some-there xs first many i x within at =
    let inside : i < many = let low = slice_get_within (take many (drop first xs)) i x at in omega (arith, low, some-long xs first many within) in
    slice_get-get_or xs (first + i) x (omega (arith, inside, within))
    ∙ ap Some (sym (some-item xs first many i x inside) ∙ get_or_from_slice_get (take many (drop first xs)) i x x at)

-- .. in one list and another behind it
pub front-there : {A : Type 0} (xs ys : List A) (i : ℕ) (x : A) → i < length xs → slice_get (xs ++ ys) i ≡ Some x → slice_get xs i ≡ Some x
front-there xs ys i x low at = slice_get-get_or xs i x low ∙ ap Some (sym (get_or_append_left xs ys x i low) ∙ get_or_from_slice_get (xs ++ ys) i x x at)

pub back-there : {A : Type 0} (xs ys : List A) (i : ℕ) (x : A) → length xs ≤ i → slice_get (xs ++ ys) i ≡ Some x → slice_get ys (i - length xs) ≡ Some x
back-there xs ys i x past at =
    let long : length (xs ++ ys) ≡ length xs + length ys = length-append xs ys in
    let inside : i < length (xs ++ ys) = slice_get_within (xs ++ ys) i x at in
    slice_get-get_or ys (i - length xs) x (omega (arith, inside, long, past))
    ∙ ap Some (sym (get_or-append_right xs ys (length xs) i x refl past) ∙ get_or_from_slice_get (xs ++ ys) i x x at)

-- as many items as are mapped
pub mapped-long : {A B : Type 0} (f : A → B) (xs : List A) (i : ℕ) (ys : List B) → i ≤ length xs → ys ≡ map f (take i xs) → length ys ≡ i
mapped-long f xs i ys within is = ap length is ∙ length-map (take i xs) f ∙ length-take-le i xs within

-- an empty list to which others come
pub filled-whole : {A R E : Type 0} (r : Result R E) (new old from : List A) → IsOk r → old ≡ [] → new ≡ (if is_ok r then old ++ from else old) → new ≡ from
filled-whole r new old from ok none is = is ∙ ap (λ b. if b then old ++ from else old) ok ∙ ap (λ xs. xs ++ from) none

-- what follows from a value, if there is one
pub on-ok : {P Q R E : Type 0} (r : Result R E) → (P → Q) → OnOk r P → OnOk r Q
on-ok (Ok x) f p = f p
on-ok (Err e) f p = tt

-- an item that is read
pub read : {S : Type 0} (xs : List S) (i : ℕ) (x : S) → i < length xs → x ≡ get_or xs i x → slice_get xs i ≡ Some x
read xs i x inside is = slice_get_read xs (length xs) i x refl inside is

pub same-item : {S : Type 0} (s t : S) (o : Option S) → o ≡ Some s → o ≡ Some t → s ≡ t
same-item s t o a b = let e : Some s ≡ Some t = sym a ∙ b in cc

-- .. and one that is written
pub written : {S : Type 0} (xs : List S) (i : ℕ) (x : S) → i < length xs → slice_get (write xs i x) i ≡ Some x
written xs i x inside =
    slice_get-get_or (write xs i x) i x (let e : length (write xs i x) ≡ length xs = length-set xs i x in omega (arith, e, inside))
    ∙ ap Some (get_or-set_same xs i x x inside)

pub others : {S : Type 0} (xs : List S) (i k : ℕ) (x : S) → k ≢ i → slice_get (write xs i x) k ≡ slice_get xs k
others xs i k x other = at (cases_lt k (length xs))
  where
    long : length (write xs i x) ≡ length xs
    long = length-set xs i x

    at : (k < length xs) ⊎ (length xs ≤ k) → slice_get (write xs i x) k ≡ slice_get xs k
    at (inl l) = slice_get-get_or (write xs i x) k x (omega (arith, long, l)) ∙ ap Some (get_or-set_other xs i k x x other) ∙ sym (slice_get-get_or xs k x l)
    at (inr u) = slice_get_past (write xs i x) k (omega (arith, long, u)) ∙ sym (slice_get_past xs k u)

-- ---- what the list was before
-- from a number on it is as it was
abbrev pub IsLeftFrom : {S : Type 0} → List S → List S → ℕ → Type 0
IsLeftFrom old now n = (b : ℕ) → n ≤ b → slice_get now b ≡ slice_get old b

pub left-next : {S : Type 0} (old now : List S) (n : ℕ) (x : S) → IsLeftFrom old now n → IsLeftFrom old (write now n x) (n + 1)
left-next old now n x left = λ b l. others now n b x (λ same. omega (arith, l, same)) ∙ left b (omega (arith, l))

-- what holds of the items below a number, as they were and are, and of the one that is written there
pub more-of : {S : Type 0} (P : ℕ → S → S → Type 0) (old now : List S) (n : ℕ) (x : S) → n < length now → IsLeftFrom old now n
    → ((b : ℕ) (was is : S) → b < n → slice_get old b ≡ Some was → slice_get now b ≡ Some is → P b was is) → P n (get_or now n x) x
    → (b : ℕ) (was is : S) → b < n + 1 → slice_get old b ≡ Some was → slice_get (write now n x) b ≡ Some is → P b was is
more-of P old now n x l left below here b was is m before after = at (cases_eq b n)
  where
    at : (b ≡ n) ⊎ (b ≢ n) → P b was is
    at (inl same) =
        subst (λ (k : ℕ). P k was is) (sym same)
        (subst (λ y. P n y is) (same-item (get_or now n x) was (slice_get old n) (sym (left n (omega arith)) ∙ slice_get-get_or now n x l) (subst (λ (k : ℕ). slice_get old k ≡ Some was) same before))
        (subst (P n (get_or now n x)) (same-item x is (slice_get (write now n x) n) (written now n x l) (subst (λ (k : ℕ). slice_get (write now n x) k ≡ Some is) same after)) here))
    at (inr other) = below b was is (omega (arith, m, other)) before (sym (others now n b x other) ∙ after)

-- what holds of the items below a number, and of the one that is written there
pub one-more : {S : Type 0} (P : ℕ → S → Type 0) (xs : List S) (n : ℕ) (x : S) → n < length xs → ((b : ℕ) (s : S) → b < n → slice_get xs b ≡ Some s → P b s) → P n x
    → (b : ℕ) (s : S) → b < n + 1 → slice_get (write xs n x) b ≡ Some s → P b s
one-more P xs n x l below here b s m is = at (cases_eq b n)
  where
    at : (b ≡ n) ⊎ (b ≢ n) → P b s
    at (inl same) = subst (λ k. P k s) (sym same) (subst (P n) (same-item x s (slice_get (write xs n x) n) (written xs n x l) (subst (λ (k : ℕ). slice_get (write xs n x) k ≡ Some s) same is)) here)
    at (inr other) = below b s (omega (arith, m, other)) (sym (others xs n b x other) ∙ is)
