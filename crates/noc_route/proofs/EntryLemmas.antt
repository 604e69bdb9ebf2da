-- Indices of entries in the table.
use Rattle.std.proofs.Common.{◌≡◌, ℕ, zero, suc, ◌+◌, ◌*◌, ◌<◌, ◌≤◌, ◌/◌, ◌%◌, true, List, [], ◌∷◌, ◌++◌, length, get_or, arith, inl, inr, refl, sym, subst, ap, ◌∙◌, zero-add}
use Rattle.std.specs.Prelude.{nat_lt, nat_le, nat_eq, ◌&&◌, ◌⊎◌, slice_index, replicate}
use Rattle.std.proofs.Math.Nat.{div-lt_iff_lt-mul, mul-le-mul_right, add-mul-div_right, add-mul-mod_self_right, mod-eq_of_lt, div-eq_of_lt, add_comm, mod-lt}
use Rattle.std.proofs.lemmas.Bool.{lt-ltb, and_parts, leb-true, ltb-true, eqb-true, cases_lt}
use Rattle.std.proofs.Math.ListN.{get_or-eq_default}
use Rattle.std.proofs.lemmas.List.{get_or-replicate, length-replicate}
use Rattle.std.proofs.lemmas.Nat.{le-div}
use Rattle.noc_packet.specs.declared.limits.TheConstants.{MAX_CHANNELS, MAX_CLASSES}
use Rattle.noc_topo.specs.Shape.{Grid, nodes, ports}
use Rattle.noc_route.specs.Relation.{is_right, escapes}
use Rattle.noc_route.specs.declared.rule.Rule.TheVariants.{Dateline, Adaptive}
use Rattle.noc_route.specs.Routes.{Routes, is_entry, set_at, entry_index}

-- element i of row a, where each row has n, comes before the end of m rows
pub flat-below : (a m i n : ℕ) → a < m → i < n → a * n + i < m * n
flat-below a m i n l k =
    let rows : (a + 1) * n ≤ m * n = mul-le-mul_right n (omega arith) in
    omega (arith, rows)

-- pages and their number are few
pub pages-few : (n k : ℕ) → n ≤ 256 → k ≤ 4 → (n * k ≤ 1024) × (n * k * n ≤ 262144)
pages-few n k a b =
    let pair : n * k ≤ 256 * k = mul-le-mul_right k a in
    let all : n * k * n ≤ 1024 * n = mul-le-mul_right n (omega arith) in
    (omega arith, omega arith)

pub page-few : (n k r m t : ℕ) → n ≤ 256 → k ≤ 4 → r < n → m < k → t < n → (r * k + m < 1024) × ((r * k + m) * n + t < 262144)
page-few n k r m t a b here class there =
    let few = pages-few n k a b in
    let pair : r * k + m < n * k = flat-below r n m k here class in
    let page : (r * k + m) * n + t < n * k * n = flat-below (r * k + m) (n * k) t n pair there in
    (omega (arith, pair, few.0), omega (arith, page, few.1))

pub is_entry-true : (g : Grid) (vcs classes m r p v t : ℕ) → m < classes → r < nodes g → p < ports g → v < vcs → t < nodes g → is_entry g vcs classes m r p v t ≡ true
is_entry-true g vcs classes m r p v t a b c d e =
    let m_ok = lt-ltb m classes a in
    let r_ok = lt-ltb r (nodes g) b in
    let p_ok = lt-ltb p (ports g) c in
    let v_ok = lt-ltb v vcs d in
    let t_ok = lt-ltb t (nodes g) e in
    rw (m_ok, r_ok, p_ok, v_ok, t_ok) refl

pub set_at-existing : (routes : Routes) (m r p v t : ℕ) → m < routes.classes → r < nodes routes.grid → p < ports routes.grid → v < routes.vcs → t < nodes routes.grid
    → set_at routes m r p v t ≡ slice_index routes.sets (entry_index routes.grid routes.vcs routes.classes m r p v t)
set_at-existing routes m r p v t a b c d e = let there = is_entry-true routes.grid routes.vcs routes.classes m r p v t a b c d e in rw there refl

-- the row and the column of element i of row a
pub flat-div : (a n i : ℕ) → i < n → (a * n + i) / n ≡ a
flat-div a n i l = rw (add_comm (a * n) i) (add-mul-div_right i a (omega arith) ∙ (let none : i / n ≡ 0 = div-eq_of_lt l in rw none (zero-add a)))

pub flat-mod : (a n i : ℕ) → i < n → (a * n + i) % n ≡ i
flat-mod a n i l = rw (add_comm (a * n) i) (add-mul-mod_self_right i a n ∙ mod-eq_of_lt l)

-- the router of a page exists
pub page-router : (b n c : ℕ) → 1 ≤ n → 1 ≤ c → b < n * c * n → b / n / c < n
page-router b n c some few l =
    let pair : b / n < n * c = (div-lt_iff_lt-mul {k = n} {x = b} {y = n * c} (omega arith)).1 l in
    (div-lt_iff_lt-mul {k = c} {x = b / n} {y = n} (omega arith)).1 pair

-- the port of a channel by its index exists
pub index-port : (k n ports vcs : ℕ) → 1 ≤ vcs → n ≡ ports * vcs → k < n → k / vcs < ports
index-port k n ports vcs some e l = (div-lt_iff_lt-mul {k = vcs} {x = k} {y = ports} some).1 (omega arith)

-- the two nodes of a pair exist
pub pair-first : (n m pair : ℕ) → n ≡ m → 1 ≤ n → pair < n * n → pair / n < m
pair-first n m pair e some l = let below : pair / n < n = (div-lt_iff_lt-mul {k = n} {x = pair} {y = n} some).1 l in omega arith

pub pair-second : (n m pair : ℕ) → n ≡ m → 1 ≤ n → pair % n < m
pair-second n m pair e some = let below : pair % n < n = mod-lt pair some in omega arith

-- where a dateline fits, each half of a class's channels has one at least
pub half-some : (g : Grid) (vcs classes : ℕ) → is_right g vcs classes Dateline ≡ true → 0 < vcs / classes / 2
half-some g vcs classes e =
    let a = and_parts _ (g.wraps && nat_eq (vcs % (2 * classes)) 0) e in
    let b = and_parts _ (nat_eq (vcs % classes) 0) a.0 in
    let c = and_parts _ (nat_le classes MAX_CLASSES) b.0 in
    let d = and_parts _ (nat_le 1 classes) c.0 in
    let f = and_parts (nat_le 1 vcs) (nat_le vcs MAX_CHANNELS) d.0 in
    let some_vcs : 1 ≤ vcs = leb-true 1 vcs f.0 in
    let some_classes : 1 ≤ classes = leb-true 1 classes d.1 in
    let whole : vcs % (2 * classes) ≡ 0 = eqb-true _ 0 (and_parts g.wraps (nat_eq (vcs % (2 * classes)) 0) a.1).1 in
    at some_vcs some_classes whole (cases_lt vcs (2 * classes))
  where
    at : 1 ≤ vcs → 1 ≤ classes → vcs % (2 * classes) ≡ 0 → (vcs < 2 * classes) ⊎ (2 * classes ≤ vcs) → 0 < vcs / classes / 2
    at some_vcs some_classes whole (inl few) = let all : vcs % (2 * classes) ≡ vcs = mod-eq_of_lt few in absurd (omega arith)
    at some_vcs some_classes whole (inr many) =
        let two : 2 ≤ vcs / classes = le-div 2 vcs classes some_classes many in
        le-div 1 (vcs / classes) 2 (omega arith) (omega arith)

-- where the rule adaptive fits, each class has a channel at least
pub adaptive-some : (g : Grid) (vcs classes : ℕ) → is_right g vcs classes Adaptive ≡ true → 0 < vcs / classes
adaptive-some g vcs classes e = let more = ltb-true (escapes g) (vcs / classes) (and_parts _ (nat_lt (escapes g) (vcs / classes)) e).1 in omega (arith, more)

-- ---- lists

-- each element of a list of one value, and what stands past its end
pub same-at : {X : Type 0} (d : X) (n k : ℕ) → get_or (replicate n d) k d ≡ d
same-at d n k = at (cases_lt k n)
  where
    at : (k < n) ⊎ (n ≤ k) → get_or (replicate n d) k d ≡ d
    at (inl l) = get_or-replicate n k d d l
    at (inr u) = get_or-eq_default (replicate n d) d (omega (arith, length-replicate n d))

-- the length of a list of zeros, and its elements
pub zeros-length : (xs : List ℕ) (n : ℕ) → xs ≡ replicate n 0 → length xs ≡ n
zeros-length xs n e = ap length e ∙ length-replicate n 0

pub zeros-at : (xs : List ℕ) (n : ℕ) → xs ≡ replicate n 0 → (j : ℕ) → get_or xs j 0 ≡ 0
zeros-at xs n e j = ap (λ (xs : List ℕ). get_or xs j 0) e ∙ same-at 0 n j

-- what holds of each element so far, by its place, and of one more
pub each-push : {X : Type 0} (d : X) (P : ℕ → X → Type 0) (xs : List X) (x : X) → ((k : ℕ) → k < length xs → P k (get_or xs k d)) → P (length xs) x → (k : ℕ) → k < length xs + 1 → P k (get_or (xs ++ x ∷ []) k d)
each-push d P [] x all last zero l = last
each-push d P [] x all last (suc k) l = absurd (omega arith)
each-push d P (y ∷ xs) x all last zero l = all zero (omega arith)
each-push d P (y ∷ xs) x all last (suc k) l = each-push d (λ i. P (suc i)) xs x (λ i m. all (suc i) (omega arith)) last k (omega arith)

-- what holds of each element of a list of n, and of one more, holds of the list that has grown
pub each-pushed : {X : Type 0} (d : X) (P : ℕ → X → Type 0) (xs ys : List X) (x : X) (n : ℕ) → length xs ≡ n → ys ≡ xs ++ x ∷ [] → ((k : ℕ) → k < n → P k (get_or xs k d)) → P n x
    → (k : ℕ) → k < n + 1 → P k (get_or ys k d)
each-pushed {X = X} d P xs ys x n long grown all last =
    let B : List X → ℕ → Type 0 = λ l m. (k : ℕ) → k < m → P k (get_or l k d) in
    let old : B xs (length xs) = subst (B xs) (sym long) all in
    let new : P (length xs) x = subst (λ m. P m x) (sym long) last in
    let more : B (xs ++ x ∷ []) (n + 1) = subst (λ m. B (xs ++ x ∷ []) (m + 1)) long (each-push d P xs x old new) in
    subst (λ l. B l (n + 1)) (sym grown) more
