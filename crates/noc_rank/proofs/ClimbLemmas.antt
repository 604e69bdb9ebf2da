-- Along hops of the rule `adaptive` the rank of the escape channel never falls, by coordinates.
use Rattle.std.proofs.Common.{◌≡◌, ℕ, ◌+◌, ◌*◌, ◌/◌, ◌<◌, ◌≤◌, Bool, true, false, List, length, get_or, set, Some, refl, sym, ap, subst, ◌∙◌, arith, inl, inr}
use Rattle.std.specs.Prelude.{◌⊎◌, if◌then◌else◌}
use Rattle.std.proofs.lemmas.Bool.{cases_lt}
use Rattle.std.proofs.lemmas.List.{get_or-set_other}
use Rattle.noc_topo.specs.Shape.{Grid, dimensions, is_plus, moved_in}
use Rattle.noc_topo.proofs.LinkLemmas.{IsWithin, AreRadices}
use Rattle.noc_steps.specs.Ways.{goes_up, dateline_class}
use Rattle.noc_route.proofs.AdaptiveLemmas.{Nearer}
use Rattle.noc_rank.specs.Formulas.{passed_in}
use Rattle.noc_rank.proofs.RiseLemmas.{IsOrderPort, order_rank, half_at, dor-rises, dateline-rises}

-- the place of the escape channel of this port among the channels of a class, and its rank
abbrev pub escape_place : Grid → List ℕ → List ℕ → ℕ → ℕ
escape_place g xs ts p = if g.wraps then half_at xs ts p else 0

abbrev pub escape_rank : Grid → List ℕ → List ℕ → ℕ → ℕ
escape_rank g xs ts p = order_rank g xs p (escape_place g xs ts p)

-- the escape channel of the port of dimension order here, if there is one, has rank n at least
abbrev pub IsAtLeast : Grid → List ℕ → List ℕ → ℕ → Type 0
IsAtLeast g xs ts n = (p : ℕ) → IsOrderPort g xs ts p → n ≤ escape_rank g xs ts p

module _ (g : Grid) (xs ts : List ℕ) (o y : ℕ) (radices : AreRadices g.radix) (here : IsWithin g.radix xs) (there : IsWithin g.radix ts) (long : length xs ≡ dimensions g)
    (moved : moved_in g.wraps (get_or g.radix (o / 2) 0) (is_plus o) (get_or xs (o / 2) 0) ≡ Some y) where
  abbrev ys : List ℕ
  ys = set xs (o / 2) y

  -- it rises along the port of dimension order
  pub rises-on : IsOrderPort g xs ts o → IsAtLeast g ys ts (escape_rank g xs ts o + 1)
  rises-on first p next = at g.wraps refl
    where
      at : (wraps : Bool) → g.wraps ≡ wraps → escape_rank g xs ts o + 1 ≤ escape_rank g ys ts p
      at true round = let l = dateline-rises g xs ts o p y radices here there long moved first next round in rw round (omega (arith, l))
      at false flat = let l = dor-rises g xs ts o p y radices here there long moved first next flat in rw flat (omega (arith, l))

  -- and does not fall along any port that comes nearer
  pub keeps-on : (n : ℕ) → o / 2 < dimensions g → Nearer g xs ts o → IsAtLeast g xs ts n → IsAtLeast g ys ts n
  keeps-on n inside nearer low p next = at (cases_lt (p / 2) (o / 2))
    where
      kept : (l : ℕ) → l < o / 2 → get_or ys l 0 ≡ get_or xs l 0
      kept l below = get_or-set_other xs (o / 2) l y 0 (λ e. omega (arith, e, below))

      at : (p / 2 < o / 2) ⊎ (o / 2 ≤ p / 2) → n ≤ escape_rank g ys ts p
      at (inl below) =
          let size = get_or g.radix (p / 2) 0 in
          let end = get_or ts (p / 2) 0 in
          let same = kept (p / 2) below in
          let P : ℕ → Type 0 = λ x. goes_up g.wraps size x end ≡ is_plus p in
          let before : IsOrderPort g xs ts p
          = record { inside = next.inside; differ = λ e. next.differ (same ∙ e); way = subst P same next.way; lower = λ l m. sym (kept l (omega (arith, m, below))) ∙ next.lower l m } in
          let rank : escape_rank g ys ts p ≡ escape_rank g xs ts p
          = ap (λ x. 32 * (p / 2) + (if g.wraps then dateline_class p x end else 0) * size + passed_in size x p + 1) same in
          omega (arith, low p before, rank)
      at (inr above) =
          let first : IsOrderPort g xs ts o
          = record { inside = inside; differ = nearer.differ; way = nearer.way; lower = λ l m. sym (kept l m) ∙ next.lower l (omega (arith, m, above)) } in
          omega (arith, low o first, rises-on first p next)
