-- Places of link channels, and the order of numbers with many digits.
use Rattle.std.proofs.Common.{◌≡◌, ℕ, ◌+◌, ◌*◌, ◌/◌, ◌%◌, ◌<◌, ◌≤◌, true, None, List, [], ◌∷◌, get_or, refl, ap, sym, subst, ◌∙◌, arith, inl, inr}
use Rattle.std.proofs.Math.Nat.{div-lt_iff_lt-mul, mod-lt, zero-mul, mul-zero, mul_comm, mul-le-mul_right}
use Rattle.std.specs.Prelude.{nat_lt, nat_eq, ◌&&◌, ◌⊎◌, is_some}
use Rattle.std.proofs.lemmas.Bool.{lt-ltb, ltb-true, eqb-true, and_parts, or_cases, cases_lt, false≢true}
use Rattle.noc_topo.specs.Shape.{Grid, nodes, ports, local_port, neighbour}
use Rattle.noc_topo.proofs.LinkLemmas.{IsWithin}
use Rattle.noc_route.specs.Order.{numbers_before}
use Rattle.noc_route.proofs.EntryLemmas.{flat-below, flat-div, flat-mod}
use Rattle.noc_route.specs.Ranks.{Ranking, is_port_channel, is_channel, rank_count, rank_index, rank_at}

-- ---- numbers with digits of different bases

-- the number with these digits after a
abbrev pub flat : ℕ → List ℕ → List ℕ → ℕ
flat a [] xs = a
flat a (k ∷ ks) [] = a
flat a (k ∷ ks) (x ∷ xs) = flat (a * k + x) ks xs

pub flat-rises : (a b : ℕ) (ks xs ys : List ℕ) → IsWithin ks xs → IsWithin ks ys → a < b → flat a ks xs < flat b ks ys
flat-rises a b [] [] [] w u l = l
flat-rises a b (k ∷ ks) (x ∷ xs) (y ∷ ys) w u l =
    let below : a * k + x < b * k = flat-below a b x k l w.0 in
    flat-rises (a * k + x) (b * k + y) ks xs ys w.1 u.1 (omega arith)
flat-rises a b [] (x ∷ xs) ys w u l = elim w [ ]
flat-rises a b [] [] (y ∷ ys) w u l = elim u [ ]
flat-rises a b (k ∷ ks) [] ys w u l = elim w [ ]
flat-rises a b (k ∷ ks) (x ∷ xs) [] w u l = elim u [ ]

-- what comes before by its digits is less
pub flat-before : (a : ℕ) (ks xs ys : List ℕ) → IsWithin ks xs → IsWithin ks ys → numbers_before xs ys ≡ true → flat a ks xs < flat a ks ys
flat-before a [] [] [] w u e = absurd (false≢true e)
flat-before a (k ∷ ks) (x ∷ xs) (y ∷ ys) w u e = at (flat-before (a * k + y) ks xs ys w.1 u.1) (or_cases (nat_lt x y) (nat_eq x y && numbers_before xs ys) e)
  where
    at : (numbers_before xs ys ≡ true → flat (a * k + y) ks xs < flat (a * k + y) ks ys) → (nat_lt x y ≡ true) ⊎ ((nat_eq x y && numbers_before xs ys) ≡ true) → flat (a * k + x) ks xs < flat (a * k + y) ks ys
    at more (inl less) = flat-rises (a * k + x) (a * k + y) ks xs ys w.1 u.1 (omega (arith, ltb-true x y less))
    at more (inr rest) =
        let parts = and_parts (nat_eq x y) (numbers_before xs ys) rest in
        rw (eqb-true x y parts.0) (more parts.1)
flat-before a [] (x ∷ xs) ys w u e = elim w [ ]
flat-before a [] [] (y ∷ ys) w u e = elim u [ ]
flat-before a (k ∷ ks) [] ys w u e = elim w [ ]
flat-before a (k ∷ ks) (x ∷ xs) [] w u e = elim u [ ]

-- ---- places

pub is_port_channel-parts : (g : Grid) (vcs r p v : ℕ) → is_port_channel g vcs r p v ≡ true → (r < nodes g) × (p < local_port g) × (v < vcs)
is_port_channel-parts g vcs r p v e =
    let a = and_parts (nat_lt r (nodes g) && nat_lt p (local_port g)) (nat_lt v vcs) e in
    let b = and_parts (nat_lt r (nodes g)) (nat_lt p (local_port g)) a.0 in
    (ltb-true r (nodes g) b.0, ltb-true p (local_port g) b.1, ltb-true v vcs a.1)

pub is_port_channel-true : (g : Grid) (vcs r p v : ℕ) → r < nodes g → p < local_port g → v < vcs → is_port_channel g vcs r p v ≡ true
is_port_channel-true g vcs r p v a b c =
    let r_ok = lt-ltb r (nodes g) a in
    let p_ok = lt-ltb p (local_port g) b in
    let v_ok = lt-ltb v vcs c in
    rw (r_ok, p_ok, v_ok) refl

pub is_channel-index : (g : Grid) (vcs r p v : ℕ) → is_channel g vcs r p v ≡ true → is_port_channel g vcs r p v ≡ true
is_channel-index g vcs r p v e = (and_parts (is_port_channel g vcs r p v) (is_some (neighbour g r p)) e).0

pub rank_index-below : (g : Grid) (vcs r p v : ℕ) → is_port_channel g vcs r p v ≡ true → rank_index g vcs r p v < rank_count g vcs
rank_index-below g vcs r p v e =
    let parts = is_port_channel-parts g vcs r p v e in
    flat-below (r * local_port g + p) (nodes g * local_port g) v vcs (flat-below r (nodes g) p (local_port g) parts.0 parts.1) parts.2

-- the channel of a place
pub rank_index-vc : (g : Grid) (vcs r p v : ℕ) → v < vcs → rank_index g vcs r p v % vcs ≡ v
rank_index-vc g vcs r p v l = flat-mod (r * local_port g + p) vcs v l

pub rank_index-port : (g : Grid) (vcs r p v : ℕ) → p < local_port g → v < vcs → rank_index g vcs r p v / vcs % local_port g ≡ p
rank_index-port g vcs r p v k l = rw (flat-div (r * local_port g + p) vcs v l) (flat-mod r (local_port g) p k)

pub rank_index-router : (g : Grid) (vcs r p v : ℕ) → p < local_port g → v < vcs → rank_index g vcs r p v / vcs / local_port g ≡ r
rank_index-router g vcs r p v k l = rw (flat-div (r * local_port g + p) vcs v l) (flat-div r (local_port g) p k)

-- places are of one channel each
pub rank_index-same : (g : Grid) (vcs r p v a q w : ℕ) → is_port_channel g vcs r p v ≡ true → is_port_channel g vcs a q w ≡ true → rank_index g vcs r p v ≡ rank_index g vcs a q w → (r ≡ a) × (p ≡ q) × (v ≡ w)
rank_index-same g vcs r p v a q w d e same =
    let here = is_port_channel-parts g vcs r p v d in
    let there = is_port_channel-parts g vcs a q w e in (
      sym (rank_index-router g vcs r p v here.1 here.2) ∙ ap (λ k. k / vcs / local_port g) same ∙ rank_index-router g vcs a q w there.1 there.2,
      sym (rank_index-port g vcs r p v here.1 here.2) ∙ ap (λ k. k / vcs % local_port g) same ∙ rank_index-port g vcs a q w there.1 there.2,
      sym (rank_index-vc g vcs r p v here.2) ∙ ap (λ k. k % vcs) same ∙ rank_index-vc g vcs a q w there.2,
    )

pub div-mod : (x n : ℕ) → 0 < n → x / n * n + x % n ≡ x
div-mod x n l = omega (arith, mul_comm (x / n) n)

-- the place of the channel of a place
pub rank_index-again : (g : Grid) (vcs k : ℕ) → 0 < vcs → 0 < local_port g → rank_index g vcs (k / vcs / local_port g) (k / vcs % local_port g) (k % vcs) ≡ k
rank_index-again g vcs k l m = rw (div-mod (k / vcs) (local_port g) m) (div-mod k vcs l)

pub is_port_channel-decoded : (g : Grid) (vcs k : ℕ) → 0 < vcs → 0 < local_port g → k < rank_count g vcs → is_port_channel g vcs (k / vcs / local_port g) (k / vcs % local_port g) (k % vcs) ≡ true
is_port_channel-decoded g vcs k l m few =
    let pair : k / vcs < nodes g * local_port g = (div-lt_iff_lt-mul {k = vcs} {x = k} {y = nodes g * local_port g} l).1 few in
    let router : k / vcs / local_port g < nodes g = (div-lt_iff_lt-mul {k = local_port g} {x = k / vcs} {y = nodes g} m).1 pair in
    is_port_channel-true g vcs _ _ _ router (mod-lt (k / vcs) m) (mod-lt k l)

-- a list that has a place has channels
pub vcs-some : (n vcs k : ℕ) → k < n * vcs → 0 < vcs
vcs-some n vcs k l = at (cases_lt 0 vcs)
  where
    at : (0 < vcs) ⊎ (vcs ≤ 0) → 0 < vcs
    at (inl some) = some
    at (inr none) = let empty : vcs ≡ 0 = omega arith in absurd (omega (arith, mul-zero n, ap (λ v. n * v) empty))

-- the place of an output channel on a link port, by its index
pub is_port_channel-index : (g : Grid) (vcs r i : ℕ) → 0 < vcs → r < nodes g → i < local_port g * vcs → is_port_channel g vcs r (i / vcs) (i % vcs) ≡ true
is_port_channel-index g vcs r i some here l =
    let port : i / vcs < local_port g = (div-lt_iff_lt-mul {k = vcs} {x = i} {y = local_port g} some).1 l in
    let vc : i % vcs < vcs = omega arith in
    is_port_channel-true g vcs r (i / vcs) (i % vcs) here port vc

pub output-place : (g : Grid) (vcs r i : ℕ) → 0 < vcs → rank_index g vcs r (i / vcs) (i % vcs) ≡ r * local_port g * vcs + i
output-place g vcs r i some =
    let whole : (r * local_port g + i / vcs) * vcs ≡ r * local_port g * vcs + i / vcs * vcs = omega arith in
    omega (arith, whole, div-mod i vcs some)

-- the rank of an output channel on a link port, by its index
pub output-known : (k : Ranking) (r i : ℕ) → r < nodes k.grid → i < local_port k.grid * k.vcs → r * local_port k.grid * k.vcs + i < rank_count k.grid k.vcs
output-known k r i here l =
    let some : 0 < k.vcs = vcs-some (local_port k.grid) k.vcs i l in
    let there = is_port_channel-index k.grid k.vcs r i some here l in
    omega (arith, rank_index-below k.grid k.vcs r (i / k.vcs) (i % k.vcs) there, output-place k.grid k.vcs r i some)

pub output-rank : (k : Ranking) (r i : ℕ) → r < nodes k.grid → i < local_port k.grid * k.vcs → get_or k.ranks (r * local_port k.grid * k.vcs + i) None ≡ rank_at k r (i / k.vcs) (i % k.vcs)
output-rank k r i here l =
    let some : 0 < k.vcs = vcs-some (local_port k.grid) k.vcs i l in
    let there = is_port_channel-index k.grid k.vcs r i some here l in
    ap (λ n. get_or k.ranks n None) (sym (output-place k.grid k.vcs r i some)) ∙ sym (rw there refl)

-- the place of what comes before comes before
pub rank_index-before : (g : Grid) (vcs a q w r p v : ℕ) → is_port_channel g vcs a q w ≡ true → is_port_channel g vcs r p v ≡ true
    → numbers_before (a ∷ q ∷ w ∷ []) (r ∷ p ∷ v ∷ []) ≡ true → rank_index g vcs a q w < rank_index g vcs r p v
rank_index-before g vcs a q w r p v d e before =
    let here = is_port_channel-parts g vcs a q w d in
    let there = is_port_channel-parts g vcs r p v e in
    let ks = nodes g ∷ local_port g ∷ vcs ∷ [] in
    let l : flat 0 ks (a ∷ q ∷ w ∷ []) < flat 0 ks (r ∷ p ∷ v ∷ []) = flat-before 0 ks (a ∷ q ∷ w ∷ []) (r ∷ p ∷ v ∷ []) (here.0, (here.1, (here.2, tt))) (there.0, (there.1, (there.2, tt))) before in
    let first : (n x : ℕ) → 0 * n + x ≡ x = λ n x. omega (arith, zero-mul n) in
    rw (first (nodes g) a, first (nodes g) r) at l

-- the index of an output channel on a link port, where so many ports and channels were counted
pub index-count : (k : Ranking) (p v : ℕ) → p ≡ local_port k.grid → v ≡ k.vcs → p * v ≡ local_port k.grid * k.vcs
index-count k p v e f = ap (λ x. x * v) e ∙ ap (λ x. local_port k.grid * x) f

pub index-known : (k : Ranking) (i p v : ℕ) → p ≡ local_port k.grid → v ≡ k.vcs → i < p * v → i < local_port k.grid * k.vcs
index-known k i p v e f l = let count = index-count k p v e f in omega arith

pub index-past : (k : Ranking) (i j p v : ℕ) → p ≡ local_port k.grid → v ≡ k.vcs → p * v ≤ i → j < local_port k.grid * k.vcs → j < i
index-past k i j p v e f m l = let count = index-count k p v e f in omega arith

pub index-few : (i p v : ℕ) → p ≤ 6 → v ≤ 8 → i < p * v → i < 56
index-few i p v a b l = let most : p * v ≤ 6 * v = mul-le-mul_right v a in omega arith

-- the port of an input channel on a link port, by its index
pub input-port : (g : Grid) (vcs i v : ℕ) → v ≡ vcs → 0 < v → i < local_port g * vcs → i / v < ports g
input-port g vcs i v e some l =
    let P : ℕ → Type 0 = λ n. i < local_port g * n in
    let link : i / v < local_port g = (div-lt_iff_lt-mul {k = v} {x = i} {y = local_port g} some).1 (subst P (sym e) l) in
    omega (arith, link)
