-- Lists made by index.
use Rattle.std.proofs.Common.{◌≡◌, ℕ, zero, suc, ◌+◌, ◌<◌, List, [], ◌∷◌, ◌++◌, length, get_or, ap, sym, ◌∙◌, arith, zero-add, add-one, ◌≤◌, Bool, true, false}
use Rattle.std.specs.List.{enumerate_from, range_with_len}
use Rattle.std.proofs.lemmas.List.{get_or-map, length-map, ext_get_or}
use Rattle.std.proofs.lemmas.List.FromFn.{length-range_with_len, get_or-range_with_len, length-enumerate_from, get_or-enumerate_from}
use Rattle.noc_topo.specs.Lists.{below, tabulate, map_indexed, one_if}

range-next : (a n : ℕ) → range_with_len a (suc n) ≡ range_with_len a n ++ (a + n) ∷ []
range-next a zero = ap (λ v. v ∷ []) (omega arith)
range-next a (suc n) = let e : a + 1 + n ≡ a + suc n = omega arith in ap (λ xs. a ∷ xs) (range-next (a + 1) n ∙ ap (λ v. range_with_len (a + 1) n ++ v ∷ []) e)

pub length-below : (n : ℕ) → length (below n) ≡ n
unfolding below
length-below n = length-range_with_len 0 n

pub get_or-below : (n i d : ℕ) → i < n → get_or (below n) i d ≡ i
unfolding below
get_or-below n i d l = get_or-range_with_len 0 n i d l ∙ zero-add i

pub below-next : (n : ℕ) → below (n + 1) ≡ below n ++ n ∷ []
unfolding below
below-next n = rw (add-one n) (range-next 0 n ∙ ap (λ v. range_with_len 0 n ++ v ∷ []) (zero-add n))

pub length-tabulate : {X : Type 0} (n : ℕ) (f : ℕ → X) → length (tabulate n f) ≡ n
unfolding tabulate
length-tabulate n f = length-map (below n) f ∙ length-below n

pub get_or-tabulate : {X : Type 0} (n i : ℕ) (f : ℕ → X) (d : X) → i < n → get_or (tabulate n f) i d ≡ f i
unfolding tabulate
get_or-tabulate n i f d l = get_or-map f (below n) i 0 d (omega (arith, length-below n)) ∙ ap f (get_or-below n i 0 l)

-- a list that has f of each index is that list
pub tabulate-from_each : {X : Type 0} (n : ℕ) (f : ℕ → X) (xs : List X) (d : X) → length xs ≡ n → ((i : ℕ) → i < n → get_or xs i d ≡ f i) → xs ≡ tabulate n f
tabulate-from_each n f xs d same each =
    ext_get_or d xs (tabulate n f) (same ∙ sym (length-tabulate n f))
    (λ i l. each i (omega arith) ∙ sym (get_or-tabulate n i f d (omega arith)))

pub length-map_indexed : {X Y : Type 0} (f : ℕ → X → Y) (xs : List X) → length (map_indexed f xs) ≡ length xs
unfolding map_indexed
length-map_indexed f xs = simp (length-map, length-enumerate_from)

pub get_or-map_indexed : {X Y : Type 0} (f : ℕ → X → Y) (xs : List X) (i : ℕ) (d : X) (e : Y) → i < length xs → get_or (map_indexed f xs) i e ≡ f i (get_or xs i d)
unfolding map_indexed
get_or-map_indexed {X = X} f xs i d e l =
    let n : length (enumerate_from 0 xs) ≡ length xs = length-enumerate_from 0 xs in
    get_or-map (λ (one : ℕ × X). f one.0 one.1) (enumerate_from 0 xs) i (i, d) e (omega arith)
    ∙ ap (λ (one : ℕ × X). f one.0 one.1) (get_or-enumerate_from 0 xs i (i, d) l)
    ∙ ap (λ k. f k (get_or xs i d)) (zero-add i)

-- a list that has f of each index and element is that list
pub map_indexed-from_each : {X Y : Type 0} (f : ℕ → X → Y) (xs : List X) (ys : List Y) (d : X) (e : Y) → length ys ≡ length xs
    → ((i : ℕ) → i < length xs → get_or ys i e ≡ f i (get_or xs i d)) → ys ≡ map_indexed f xs
map_indexed-from_each f xs ys d e same each =
    ext_get_or e ys (map_indexed f xs) (same ∙ sym (length-map_indexed f xs))
    (λ i l. each i (omega arith) ∙ sym (get_or-map_indexed f xs i d e (omega arith)))

-- at most one
pub one-small : (b : Bool) → one_if b ≤ 1
one-small true = omega arith
one-small false = omega arith
