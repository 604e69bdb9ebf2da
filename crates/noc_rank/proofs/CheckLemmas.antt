-- The first step that does not rise, over all entries.
use Rattle.std.proofs.Common.{◌≡◌, Bor, ℕ, zero, suc, ◌+◌, ◌-◌, ◌*◌, ◌%◌, ◌<◌, ◌≤◌, Bool, true, false, List, [], ◌∷◌, Option, Some, None, refl, ap, sym, subst, ◌∙◌, arith, inl, inr}
use Rattle.std.specs.Prelude.{◌⊎◌, ◌↔◌, MatchOption, slice_get, is_some}
use Rattle.std.specs.List.{range_with_len, AllZip}
use Rattle.std.proofs.lemmas.Bool.{cases_lt, false≢true}
use Rattle.rayon.proofs.ListFacts.{AllZip-weaken}
use Rattle.rayon.specs.Lists.{filter_by_mask}
use Rattle.rayon.specs.Numbers.{nat_range}
use Rattle.noc_topo.specs.Shape.{Grid, IsGrid, nodes, ports}
use Rattle.noc_route.specs.Routes.{Routes, set_at}
use Rattle.noc_route.specs.Ranks.{Ranking, IsRising, rank_at}
use Rattle.noc_rank.specs.declared.rising.Fall.{Fall}
use Rattle.noc_rank.specs.Rising.{IsFirstFall}
use Rattle.noc_rank.specs.NotRising.{falls_from, input_count, class_of, router_of, input_port_of, HasNoFall, IsFirstAt}
use Rattle.noc_rank.proofs.FallLemmas.{rising, first_fall, over}

-- ---- all entries

pub count-inputs : (k : Ranking) (c v classes : ℕ) (g : Grid) → c ≡ classes → g ≡ k.grid → v ≡ k.vcs → c * (nodes g * ports g * v) ≡ classes * input_count k
count-inputs k c v classes g few grid vcs =
    ap (λ x. c * (nodes x * ports x * v)) grid ∙ ap (λ x. c * (nodes k.grid * ports k.grid * x)) vcs ∙ ap (λ x. x * input_count k) few

-- the ranks, over the shape and the channels of the relation
same_over : (routes : Routes) (k : Ranking) (sound : IsGrid routes.grid) → routes.grid ≡ k.grid → routes.vcs ≡ k.vcs → over routes k.ranks sound ≡ k
same_over routes k sound grid vcs = λ i. record { grid = grid i; vcs = vcs i; ranks = k.ranks }

pub all-rise : (routes : Routes) (k : Ranking) (n : ℕ) → routes.grid ≡ k.grid → routes.vcs ≡ k.vcs → IsGrid routes.grid → n ≡ routes.classes * input_count k
    → ((e : ℕ) → e < n → HasNoFall routes k e) → IsRising routes (rank_at k)
all-rise routes k n grid vcs sound count none =
    let P : Ranking → Type 0 = λ x. n ≡ routes.classes * input_count x → ((e : ℕ) → e < n → HasNoFall routes x e) → IsRising routes (rank_at x) in
    let core : P (over routes k.ranks sound) = λ m h. rising routes k.ranks sound (λ e l. h e (omega (arith, m, l))) in
    subst P (same_over routes k sound grid vcs) core count none

pub one-falls : (routes : Routes) (k : Ranking) (e : ℕ) (fall : Fall) → routes.grid ≡ k.grid → routes.vcs ≡ k.vcs → IsGrid routes.grid
    → IsFirstAt routes k e fall → ((f : ℕ) → f < e → HasNoFall routes k f) → IsFirstFall routes k fall.step fall.rank fall.next
one-falls routes k e fall grid vcs sound here none =
    let P : Ranking → Type 0 = λ x. IsFirstAt routes x e fall → ((f : ℕ) → f < e → HasNoFall routes x f) → IsFirstFall routes x fall.step fall.rank fall.next in
    let core : P (over routes k.ranks sound) = λ h earlier. first_fall routes k.ranks sound e fall h earlier in
    subst P (same_over routes k sound grid vcs) core here none

-- ---- one entry

-- where there is a fall, not every step rises
fall-some : (routes : Routes) (k : Ranking) (e : ℕ) (fall : Fall) → IsFirstAt routes k e fall → HasNoFall routes k e → ⊥
fall-some routes k e fall here none =
    let f = here.first in
    let i = f.index in
    let quiet : falls_from k (router_of k e) (set_at routes (class_of k e) (router_of k e) (input_port_of k e) (e % k.vcs) f.dst) (Some here.before) i ≡ false
    = ap (λ o. falls_from k (router_of k e) (set_at routes (class_of k e) (router_of k e) (input_port_of k e) (e % k.vcs) f.dst) o i) (sym here.arrival) ∙ none f.dst f.exists i f.least.inside in
    false≢true (sym quiet ∙ f.least.holds)

pub rises-iff : (routes : Routes) (k : Ranking) (e : ℕ) (o : Option Fall) → MatchOption o (HasNoFall routes k e) (IsFirstAt routes k e) → (is_some o ≡ false) ↔ HasNoFall routes k e
rises-iff routes k e None h = (λ z. h, λ z. refl)
rises-iff routes k e (Some fall) h = (λ z. absurd (false≢true (sym z)), λ none. absurd (fall-some routes k e fall h none))

-- ---- the first of a range at which a test passes

-- a test that fails at a number exactly where P holds of it, and the first at which it passes
pub record IsFirstBut (P : ℕ → Type 0) (a n e : ℕ) : Type 0 where
  pub from : a ≤ e
  pub below : e < a + n
  pub fails : P e → ⊥
  pub earlier : (i : ℕ) → a ≤ i → i < e → P i

abbrev pub AreTold : (ℕ → Type 0) → List ℕ → List Bool → Type 0
AreTold P = AllZip (λ e b. (b ≡ false) ↔ P e)

next-first : (P : ℕ → Type 0) (a n : ℕ) (o : Option ℕ) → P a → MatchOption o ((e : ℕ) → a + 1 ≤ e → e < a + 1 + n → P e) (IsFirstBut P (a + 1) n)
    → MatchOption o ((e : ℕ) → a ≤ e → e < a + suc n → P e) (IsFirstBut P a (suc n))
next-first P a n None here rest = λ e from below. at e from below (cases_lt a e)
  where
    at : (e : ℕ) → a ≤ e → e < a + suc n → (a < e) ⊎ (e ≤ a) → P e
    at e from below (inl more) = rest e (omega arith) (omega arith)
    at e from below (inr same) = let is : a ≡ e = omega arith in subst P is here
next-first P a n (Some i) here rest = record {
  from = omega (arith, rest.from);
  below = omega (arith, rest.below);
  fails = rest.fails;
  earlier = λ e from below. at e from below (cases_lt a e);
}
  where
    at : (e : ℕ) → a ≤ e → e < i → (a < e) ⊎ (e ≤ a) → P e
    at e from below (inl more) = rest.earlier e (omega arith) below
    at e from below (inr same) = let is : a ≡ e = omega arith in subst P is here

pub first-but : (P : ℕ → Type 0) (a n : ℕ) (bs : List Bool) → AreTold P (range_with_len a n) bs
    → MatchOption (slice_get (filter_by_mask (range_with_len a n) bs) 0) ((e : ℕ) → a ≤ e → e < a + n → P e) (IsFirstBut P a n)
first-but P a zero [] all = λ e from below. absurd (omega arith)
first-but P a zero (b ∷ bs) all = absurd all
first-but P a (suc n) [] all = absurd all
first-but P a (suc n) (true ∷ bs) all = record { from = omega arith; below = omega arith; fails = λ h. false≢true (sym (all.0.1 h)); earlier = λ e from below. absurd (omega arith) }
first-but P a (suc n) (false ∷ bs) all = next-first P a n _ (all.0.0 refl) (first-but P (a + 1) n bs all.1)

-- what a search over all numbers tells, where it asks by reference
pub searched : (P : ℕ → Type 0) (n from end : ℕ) (found : Option ℕ) → from ≡ 0 → end ≡ n
    → (xs : List ℕ) × (bs : List Bool) × (xs ≡ nat_range from end) × AllZip (λ x b. (p : Bor ℕ) × (p.now ≡ x) × ((b ≡ false) ↔ P p.now)) xs bs × (found ≡ slice_get (filter_by_mask xs bs) 0)
    → MatchOption found ((e : ℕ) → e < n → P e) (IsFirstBut P 0 n)
searched P n from end found first last h = at _ (first-but P 0 n h.1 (subst (λ l. AreTold P l h.1) range values)) (h.4 ∙ ap (λ l. slice_get (filter_by_mask l h.1) 0) range)
  where
    range : h.0 ≡ range_with_len 0 n
    range = let whole : n - 0 ≡ n = omega arith in h.2 ∙ (λ i. nat_range (first i) (last i)) ∙ ap (range_with_len 0) whole

    value : (x : ℕ) (b : Bool) → ((p : Bor ℕ) × (p.now ≡ x) × ((b ≡ false) ↔ P p.now)) → (b ≡ false) ↔ P x
    value x b told = subst (λ y. (b ≡ false) ↔ P y) told.1 told.2

    values : AreTold P h.0 h.1
    values = AllZip-weaken _ (λ x b. (b ≡ false) ↔ P x) value h.0 h.1 h.3

    at : (o : Option ℕ) → MatchOption o ((e : ℕ) → 0 ≤ e → e < 0 + n → P e) (IsFirstBut P 0 n) → found ≡ o → MatchOption found ((e : ℕ) → e < n → P e) (IsFirstBut P 0 n)
    at None told e = rw e (λ i below. told i (omega arith) (omega arith))
    at (Some i) told e = rw e told

-- the first fall of the first entry that has one
pub one-first : (routes : Routes) (k : Ranking) (n e : ℕ) (o : Option Fall) → routes.grid ≡ k.grid → routes.vcs ≡ k.vcs → IsGrid routes.grid → IsFirstBut (HasNoFall routes k) 0 n e
    → MatchOption o (HasNoFall routes k e) (IsFirstAt routes k e) → MatchOption o (IsRising routes (rank_at k)) (λ fall. IsFirstFall routes k fall.step fall.rank fall.next)
one-first routes k n e None grid vcs sound found h = absurd (found.fails h)
one-first routes k n e (Some fall) grid vcs sound found h = one-falls routes k e fall grid vcs sound h (λ f below. found.earlier f (omega arith) below)
