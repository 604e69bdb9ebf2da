-- Ranks by formula rise along each rule that has them, by coordinates.
use Rattle.std.proofs.Common.{◌≡◌, ◌≢◌, ℕ, ◌+◌, ◌*◌, ◌/◌, ◌<◌, ◌≤◌, Bool, true, false, List, length, get_or, set, Some, sym, ap, subst, ◌∙◌, arith, inl, inr}
use Rattle.std.specs.Prelude.{◌⊎◌}
use Rattle.std.proofs.lemmas.Bool.{cases_lt, false≢true}
use Rattle.std.proofs.lemmas.List.{get_or-set_same, get_or-set_other}
use Rattle.noc_topo.specs.Lists.{is_some_of}
use Rattle.noc_topo.specs.Shape.{Grid, dimensions, is_plus, moved_in}
use Rattle.noc_topo.proofs.LinkLemmas.{IsWithin, IsWithin-at, AreRadices, AreRadices-at}
use Rattle.noc_route.specs.Relation.{dor_port}
use Rattle.noc_steps.specs.Ways.{goes_up, dateline_class}
use Rattle.noc_route.proofs.NamedLemmas.{dor_port_from-some, port-up, some_of-true}
use Rattle.noc_rank.specs.Formulas.{passed_in}
use Rattle.noc_rank.proofs.StepLemmas.{behind, half, behind-below, half-few, mesh-rises, mesh-onward, round-rises}

-- ---- the port of dimension order

-- what is known of it: the coordinates differ in its dimension and in no lower one
pub record IsOrderPort (g : Grid) (xs ts : List ℕ) (p : ℕ) : Type 0 where
  pub inside : p / 2 < dimensions g
  pub differ : get_or xs (p / 2) 0 ≢ get_or ts (p / 2) 0
  pub way : goes_up g.wraps (get_or g.radix (p / 2) 0) (get_or xs (p / 2) 0) (get_or ts (p / 2) 0) ≡ is_plus p
  pub lower : (l : ℕ) → l < p / 2 → get_or xs l 0 ≡ get_or ts l 0

pub order-port : (g : Grid) (xs ts : List ℕ) (p : ℕ) → is_some_of (dor_port g xs ts) p ≡ true → IsOrderPort g xs ts p
order-port g xs ts p e =
    let found = dor_port_from-some g.wraps 0 g.radix xs ts p (some_of-true _ p e) in
    let up = goes_up g.wraps (get_or g.radix found.0 0) (get_or xs found.0 0) (get_or ts found.0 0) in
    let port = port-up up found.0 p found.3 in
    at found.0 (sym port.0) found.1 found.2 (sym port.1) found.4
  where
    at : (i : ℕ) → i ≡ p / 2 → i < dimensions g → get_or xs i 0 ≢ get_or ts i 0 → goes_up g.wraps (get_or g.radix i 0) (get_or xs i 0) (get_or ts i 0) ≡ is_plus p
        → ((l : ℕ) → l < i → get_or xs l 0 ≡ get_or ts l 0) → IsOrderPort g xs ts p
    at i same a b c d =
        let P : ℕ → Type 0 = λ i. get_or xs i 0 ≢ get_or ts i 0 in
        let Q : ℕ → Type 0 = λ i. goes_up g.wraps (get_or g.radix i 0) (get_or xs i 0) (get_or ts i 0) ≡ is_plus p in
        record { inside = omega (arith, same, a); differ = subst P same b; way = subst Q same c; lower = λ l below. d l (omega (arith, same, below)) }

-- the port of dimension order after a step along it: of a higher dimension, or of the same where
-- its coordinate still differs
pub record IsSameDimension (g : Grid) (ts : List ℕ) (o p y : ℕ) : Type 0 where
  pub same : p / 2 ≡ o / 2
  pub differ : y ≢ get_or ts (o / 2) 0
  pub way : goes_up g.wraps (get_or g.radix (o / 2) 0) y (get_or ts (o / 2) 0) ≡ is_plus p

pub order-next : (g : Grid) (xs ts : List ℕ) (o p y : ℕ) → length xs ≡ dimensions g → IsOrderPort g xs ts o → IsOrderPort g (set xs (o / 2) y) ts p
    → (o / 2 < p / 2) ⊎ IsSameDimension g ts o p y
order-next g xs ts o p y long first next = at (cases_lt (o / 2) (p / 2)) (cases_lt (p / 2) (o / 2))
  where
    at : (o / 2 < p / 2) ⊎ (p / 2 ≤ o / 2) → (p / 2 < o / 2) ⊎ (o / 2 ≤ p / 2) → (o / 2 < p / 2) ⊎ IsSameDimension g ts o p y
    at (inl above) b = inl above
    at (inr a) (inl below) =
        let apart : p / 2 ≢ o / 2 = λ e. omega (arith, e, below) in
        let kept : get_or (set xs (o / 2) y) (p / 2) 0 ≡ get_or xs (p / 2) 0 = get_or-set_other xs (o / 2) (p / 2) y 0 apart in
        absurd (next.differ (kept ∙ first.lower (p / 2) below))
    at (inr a) (inr b) =
        let same : p / 2 ≡ o / 2 = omega (arith, a, b) in
        let there : get_or (set xs (o / 2) y) (o / 2) 0 ≡ y = get_or-set_same xs (o / 2) y 0 (omega (arith, first.inside, long)) in
        let P : ℕ → Type 0 = λ i. get_or (set xs (o / 2) y) i 0 ≢ get_or ts i 0 in
        let Q : ℕ → Type 0 = λ i. goes_up g.wraps (get_or g.radix i 0) (get_or (set xs (o / 2) y) i 0) (get_or ts i 0) ≡ is_plus p in
        let R : ℕ → Type 0 = λ x. goes_up g.wraps (get_or g.radix (o / 2) 0) x (get_or ts (o / 2) 0) ≡ is_plus p in
        inr (record { same = same; differ = λ e. subst P same next.differ (there ∙ e); way = subst R there (subst Q same next.way) })

-- ---- ranks of dimension order and of dateline

-- the rank of a channel of this port at these coordinates, in the half c of its class's channels
abbrev pub order_rank : Grid → List ℕ → ℕ → ℕ → ℕ
order_rank g xs p c = 32 * (p / 2) + c * get_or g.radix (p / 2) 0 + passed_in (get_or g.radix (p / 2) 0) (get_or xs (p / 2) 0) p + 1

-- the half that the way takes
abbrev pub half_at : List ℕ → List ℕ → ℕ → ℕ
half_at xs ts p = dateline_class p (get_or xs (p / 2) 0) (get_or ts (p / 2) 0)

half-room : (c k b : ℕ) → c ≤ 1 → k ≤ 16 → b < k → c * k + b < 32
half-room c k b few small l = at (cases_lt c 1)
  where
    at : (c < 1) ⊎ (1 ≤ c) → c * k + b < 32
    at (inl none) = let zero : c ≡ 0 = omega arith in rw zero (omega arith)
    at (inr one) = let whole : c ≡ 1 = omega arith in rw whole (omega arith)

-- a higher dimension has higher ranks
higher-rank : (i j a b k c : ℕ) → i < j → a + b < 32 → 32 * i + a + b + 1 < 32 * j + k + c + 1
higher-rank i j a b k c l m = omega arith

module _ (g : Grid) (xs ts : List ℕ) (o p y : ℕ) (radices : AreRadices g.radix) (here : IsWithin g.radix xs) (there : IsWithin g.radix ts) (long : length xs ≡ dimensions g)
    (moved : moved_in g.wraps (get_or g.radix (o / 2) 0) (is_plus o) (get_or xs (o / 2) 0) ≡ Some y)
    (first : IsOrderPort g xs ts o) (next : IsOrderPort g (set xs (o / 2) y) ts p) where
  abbrev size : ℕ
  size = get_or g.radix (o / 2) 0

  abbrev ys : List ℕ
  ys = set xs (o / 2) y

  changed : get_or ys (o / 2) 0 ≡ y
  changed = get_or-set_same xs (o / 2) y 0 (omega (arith, first.inside, long))

  -- in the same dimension: where the next port leads the same way, its rank
  -- is of the next coordinate
  rank-same : (c : ℕ) → p / 2 ≡ o / 2 → is_plus p ≡ is_plus o → order_rank g ys p c ≡ 32 * (o / 2) + c * size + behind size y (is_plus o) + 1
  rank-same c same way =
      let P : ℕ → ℕ = λ i. 32 * i + c * get_or g.radix i 0 + behind (get_or g.radix i 0) (get_or ys i 0) (is_plus p) + 1 in
      let Q : Bool → ℕ = λ up. 32 * (o / 2) + c * size + behind size (get_or ys (o / 2) 0) up + 1 in
      let R : ℕ → ℕ = λ x. 32 * (o / 2) + c * size + behind size x (is_plus o) + 1 in
      ap P same ∙ ap Q way ∙ ap R changed

  half-same : p / 2 ≡ o / 2 → is_plus p ≡ is_plus o → half_at ys ts p ≡ half (is_plus o) y (get_or ts (o / 2) 0)
  half-same same way =
      let P : ℕ → ℕ = λ i. half (is_plus p) (get_or ys i 0) (get_or ts i 0) in
      let Q : Bool → ℕ = λ up. half up (get_or ys (o / 2) 0) (get_or ts (o / 2) 0) in
      let R : ℕ → ℕ = λ x. half (is_plus o) x (get_or ts (o / 2) 0) in
      ap P same ∙ ap Q way ∙ ap R changed

  inside : get_or xs (o / 2) 0 < size
  inside = IsWithin-at g.radix xs (o / 2) here first.inside

  -- on a mesh the ranks rise
  pub dor-rises : g.wraps ≡ false → order_rank g xs o 0 < order_rank g ys p 0
  dor-rises flat = at (order-next g xs ts o p y long first next)
    where
      straight : (wraps : Bool) → wraps ≡ false → goes_up wraps size (get_or xs (o / 2) 0) (get_or ts (o / 2) 0) ≡ is_plus o → moved_in wraps size (is_plus o) (get_or xs (o / 2) 0) ≡ Some y
          → goes_up wraps size y (get_or ts (o / 2) 0) ≡ is_plus p → y ≢ get_or ts (o / 2) 0 → (is_plus p ≡ is_plus o) × (behind size (get_or xs (o / 2) 0) (is_plus o) < behind size y (is_plus o))
      straight true f a b c d = absurd (false≢true (sym f))
      straight false f a b c d = (
        sym c ∙ mesh-onward size (get_or xs (o / 2) 0) y (get_or ts (o / 2) 0) (is_plus o) first.differ d a b,
        mesh-rises size (get_or xs (o / 2) 0) y (get_or ts (o / 2) 0) (is_plus o) inside d a b,
      )

      at : (o / 2 < p / 2) ⊎ IsSameDimension g ts o p y → order_rank g xs o 0 < order_rank g ys p 0
      at (inl above) =
          higher-rank (o / 2) (p / 2) (0 * size) (behind size (get_or xs (o / 2) 0) (is_plus o)) _ _ above
          (half-room 0 size _ (omega arith) (AreRadices-at g.radix (o / 2) radices first.inside).1 (behind-below size _ (is_plus o) inside))
      at (inr s) =
          let more = straight g.wraps flat first.way moved s.way s.differ in
          omega (arith, rank-same 0 s.same more.0, more.1)

  -- round a torus they rise by halves
  pub dateline-rises : g.wraps ≡ true → order_rank g xs o (half_at xs ts o) < order_rank g ys p (half_at ys ts p)
  dateline-rises round = at (order-next g xs ts o p y long first next)
    where
      straight : (wraps : Bool) → wraps ≡ true → goes_up wraps size (get_or xs (o / 2) 0) (get_or ts (o / 2) 0) ≡ is_plus o → moved_in wraps size (is_plus o) (get_or xs (o / 2) 0) ≡ Some y
          → goes_up wraps size y (get_or ts (o / 2) 0) ≡ is_plus p → y ≢ get_or ts (o / 2) 0
          → (is_plus p ≡ is_plus o)
          × (half (is_plus o) (get_or xs (o / 2) 0) (get_or ts (o / 2) 0) * size + behind size (get_or xs (o / 2) 0) (is_plus o) < half (is_plus o) y (get_or ts (o / 2) 0) * size + behind size y (is_plus o))
      straight false f a b c d = absurd (false≢true f)
      straight true f a b c d =
          let more = round-rises size (get_or xs (o / 2) 0) y (get_or ts (o / 2) 0) (is_plus o) inside (IsWithin-at g.radix ts (o / 2) there first.inside) first.differ d a b in
          (sym c ∙ more.0, more.1)

      at : (o / 2 < p / 2) ⊎ IsSameDimension g ts o p y → order_rank g xs o (half_at xs ts o) < order_rank g ys p (half_at ys ts p)
      at (inl above) =
          higher-rank (o / 2) (p / 2) (half_at xs ts o * size) (behind size (get_or xs (o / 2) 0) (is_plus o)) _ _ above
          (half-room (half_at xs ts o) size _ (half-few (is_plus o) (get_or xs (o / 2) 0) (get_or ts (o / 2) 0)) (AreRadices-at g.radix (o / 2) radices first.inside).1 (behind-below size _ (is_plus o) inside))
      at (inr s) =
          let more = straight g.wraps round first.way moved s.way s.differ in
          let same : order_rank g ys p (half_at ys ts p) ≡ 32 * (o / 2) + half (is_plus o) y (get_or ts (o / 2) 0) * size + behind size y (is_plus o) + 1
          = ap (order_rank g ys p) (half-same s.same more.0) ∙ rank-same (half (is_plus o) y (get_or ts (o / 2) 0)) s.same more.0 in
          rw same (one-more (32 * (o / 2)) _ _ _ _ more.1)
        where
          one-more : (n a b c d : ℕ) → a + b < c + d → n + a + b + 1 < n + c + d + 1
          one-more n a b c d l = omega arith
