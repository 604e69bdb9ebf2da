-- Ranks by formula rise along west first, by coordinates.
use Rattle.std.proofs.Common.{◌≡◌, ◌≢◌, ℕ, zero, suc, ◌+◌, ◌-◌, ◌*◌, ◌/◌, ◌<◌, ◌≤◌, true, false, List, length, get_or, set, Some, refl, sym, ap, subst, ◌∙◌, arith, inl, inr}
use Rattle.std.specs.Prelude.{◌⊎◌, nat_eq, nat_lt, if◌then◌else◌}
use Rattle.std.proofs.lemmas.Bool.{ltb-true, ltb-false, leb-true, and_parts, false≢true}
use Rattle.std.proofs.lemmas.List.{get_or-set_same, get_or-set_other}
use Rattle.noc_topo.specs.Shape.{Grid, is_plus, moved_in}
use Rattle.noc_route.specs.Relation.{is_nearer, takes_port}
use Rattle.noc_steps.specs.Ways.{goes_up, is_west_first}
use Rattle.noc_route.specs.declared.rule.Rule.TheVariants.{WestFirst}
use Rattle.noc_route.proofs.AdaptiveLemmas.{Nearer, Nearer-from_test}
use Rattle.noc_rank.proofs.StepLemmas.{moved-up, moved-down}

-- the rank by west first of a channel of this port at column x and row y, of
-- so many columns and rows
abbrev pub west_rank : ℕ → ℕ → ℕ → ℕ → ℕ → ℕ
west_rank columns rows x y p =
    if nat_eq p 1 then columns - x
    else (if nat_eq p 0 then columns + x * (rows + 1) + rows + 1 else columns + x * (rows + 1) + (if is_plus p then y else rows - 1 - y) + 1)

-- ---- where it leads

-- one of four ways, by the coordinates of a router and of the destination
pub data IsWest : ℕ → ℕ → ℕ → ℕ → ℕ → Type 0 where
  west : {x y a b p : ℕ} → p ≡ 1 → a < x → IsWest x y a b p
  east : {x y a b p : ℕ} → p ≡ 0 → x < a → IsWest x y a b p
  north : {x y a b p : ℕ} → p ≡ 2 → x ≤ a → y < b → IsWest x y a b p
  south : {x y a b p : ℕ} → p ≡ 3 → x ≤ a → b < y → IsWest x y a b p

pub west-ways : (g : Grid) (xs ts : List ℕ) (p : ℕ) → g.wraps ≡ false → p < 4 → takes_port g WestFirst xs ts p ≡ true → IsWest (get_or xs 0 0) (get_or xs 1 0) (get_or ts 0 0) (get_or ts 1 0) p
west-ways g xs ts p flat few e = at p few nearer.differ (sym (ap (λ w. goes_up w (get_or g.radix (p / 2) 0) (get_or xs (p / 2) 0) (get_or ts (p / 2) 0)) flat) ∙ nearer.way) parts.1
  where
    parts : (is_nearer g xs ts p ≡ true) × (is_west_first xs ts p ≡ true)
    parts = and_parts (is_nearer g xs ts p) (is_west_first xs ts p) e

    nearer : Nearer g xs ts p
    nearer = Nearer-from_test g xs ts p parts.0

    at : (p : ℕ) → p < 4 → get_or xs (p / 2) 0 ≢ get_or ts (p / 2) 0 → nat_lt (get_or xs (p / 2) 0) (get_or ts (p / 2) 0) ≡ is_plus p → is_west_first xs ts p ≡ true
        → IsWest (get_or xs 0 0) (get_or xs 1 0) (get_or ts 0 0) (get_or ts 1 0) p
    at zero few differ way on = east refl (ltb-true _ _ way)
    at (suc zero) few differ way on = west refl (omega (arith, ltb-false _ _ way, differ))
    at (suc (suc zero)) few differ way on = north refl (leb-true _ _ on) (ltb-true _ _ way)
    at (suc (suc (suc zero))) few differ way on = south refl (leb-true _ _ on) (omega (arith, ltb-false _ _ way, differ))
    at (suc (suc (suc (suc p)))) few differ way on = absurd (omega (arith, few))

-- the ranks at each port
rank-west : (c r x y p : ℕ) → p ≡ 1 → west_rank c r x y p ≡ c - x
rank-west c r x y p e = ap (west_rank c r x y) e

rank-east : (c r x y p : ℕ) → p ≡ 0 → west_rank c r x y p ≡ c + x * (r + 1) + r + 1
rank-east c r x y p e = ap (west_rank c r x y) e

rank-north : (c r x y p : ℕ) → p ≡ 2 → west_rank c r x y p ≡ c + x * (r + 1) + y + 1
rank-north c r x y p e = ap (west_rank c r x y) e

rank-south : (c r x y p : ℕ) → p ≡ 3 → west_rank c r x y p ≡ c + x * (r + 1) + (r - 1 - y) + 1
rank-south c r x y p e = ap (west_rank c r x y) e

-- ranks of ports other than the one down dimension 0 are above the number of columns
above-columns : (c r x y a b p : ℕ) → IsWest x y a b p → a ≡ x → c < west_rank c r x y p
above-columns c r x y a b p (west e l) same = absurd (omega (arith, l, same))
above-columns c r x y a b p (east e l) same = omega (arith, rank-east c r x y p e)
above-columns c r x y a b p (north e l m) same = omega (arith, rank-north c r x y p e)
above-columns c r x y a b p (south e l m) same = omega (arith, rank-south c r x y p e)

-- a step down dimension 0
from-west : (c r x z y a b p : ℕ) → x < c → z + 1 ≡ x → a ≤ z → IsWest z y a b p → c - x < west_rank c r z y p
from-west c r x z y a b p l step on (west e m) = omega (arith, rank-west c r z y p e, step, l)
from-west c r x z y a b p l step on (east e m) = omega (arith, rank-east c r z y p e, step, l)
from-west c r x z y a b p l step on (north e m n) = omega (arith, rank-north c r z y p e, step, l)
from-west c r x z y a b p l step on (south e m n) = omega (arith, rank-south c r z y p e, step, l)

next-column : (x r : ℕ) → (x + 1) * (r + 1) ≡ x * (r + 1) + r + 1
next-column x r = omega arith

-- a step up dimension 0
from-east : (c r x y a b p : ℕ) → x < a → IsWest (x + 1) y a b p → c + x * (r + 1) + r + 1 < west_rank c r (x + 1) y p
from-east c r x y a b p on (west e m) = absurd (omega (arith, m, on))
from-east c r x y a b p on (east e m) = omega (arith, rank-east c r (x + 1) y p e, next-column x r)
from-east c r x y a b p on (north e m n) = omega (arith, rank-north c r (x + 1) y p e, next-column x r)
from-east c r x y a b p on (south e m n) = omega (arith, rank-south c r (x + 1) y p e, next-column x r)

-- a step up dimension 1
from-north : (c r x y a b p : ℕ) → x ≤ a → y < b → b < r → IsWest x (y + 1) a b p → c + x * (r + 1) + y + 1 < west_rank c r x (y + 1) p
from-north c r x y a b p on up few (west e m) = absurd (omega (arith, m, on))
from-north c r x y a b p on up few (east e m) = omega (arith, rank-east c r x (y + 1) p e, up, few)
from-north c r x y a b p on up few (north e m n) = omega (arith, rank-north c r x (y + 1) p e)
from-north c r x y a b p on up few (south e m n) = absurd (omega (arith, n, up))

-- a step down dimension 1
from-south : (c r x y z a b p : ℕ) → x ≤ a → b < y → y < r → z + 1 ≡ y → IsWest x z a b p → c + x * (r + 1) + (r - 1 - y) + 1 < west_rank c r x z p
from-south c r x y z a b p on down few step (west e m) = absurd (omega (arith, m, on))
from-south c r x y z a b p on down few step (east e m) = omega (arith, rank-east c r x z p e, step, few)
from-south c r x y z a b p on down few step (north e m n) = absurd (omega (arith, n, down, step))
from-south c r x y z a b p on down few step (south e m n) = omega (arith, rank-south c r x z p e, step, few)

-- ---- by lists of coordinates

abbrev pub rank_over : List ℕ → List ℕ → ℕ → ℕ
rank_over ks xs p = west_rank (get_or ks 0 0) (get_or ks 1 0) (get_or xs 0 0) (get_or xs 1 0) p

abbrev pub IsWestOf : List ℕ → List ℕ → ℕ → Type 0
IsWestOf xs ts p = IsWest (get_or xs 0 0) (get_or xs 1 0) (get_or ts 0 0) (get_or ts 1 0) p

module _ (ks xs ts : List ℕ) (p z : ℕ) (two : length xs ≡ 2) (column : get_or xs 0 0 < get_or ks 0 0) (row : get_or xs 1 0 < get_or ks 1 0) (end : get_or ts 1 0 < get_or ks 1 0) where
  -- a step in dimension 0, and one in dimension 1
  first-set : get_or (set xs 0 z) 0 0 ≡ z
  first-set = get_or-set_same xs 0 z 0 (omega (arith, two))

  second-set : get_or (set xs 1 z) 1 0 ≡ z
  second-set = get_or-set_same xs 1 z 0 (omega (arith, two))

  second-kept : get_or (set xs 1 z) 0 0 ≡ get_or xs 0 0
  second-kept = get_or-set_other xs 1 0 z 0 (λ e. omega arith)

  along-first : (n : ℕ) → IsWestOf (set xs 0 z) ts p → ((y : ℕ) → IsWest z y (get_or ts 0 0) (get_or ts 1 0) p → n < west_rank (get_or ks 0 0) (get_or ks 1 0) z y p) → n < rank_over ks (set xs 0 z) p
  along-first n next rises =
      let y = get_or (set xs 0 z) 1 0 in
      let P : ℕ → Type 0 = λ x. IsWest x y (get_or ts 0 0) (get_or ts 1 0) p → n < west_rank (get_or ks 0 0) (get_or ks 1 0) x y p in
      subst P (sym first-set) (rises y) next

  along-second : (n : ℕ) → IsWestOf (set xs 1 z) ts p
      → (IsWest (get_or xs 0 0) z (get_or ts 0 0) (get_or ts 1 0) p → n < west_rank (get_or ks 0 0) (get_or ks 1 0) (get_or xs 0 0) z p) → n < rank_over ks (set xs 1 z) p
  along-second n next rises =
      let P : ℕ → ℕ → Type 0 = λ x y. IsWest x y (get_or ts 0 0) (get_or ts 1 0) p → n < west_rank (get_or ks 0 0) (get_or ks 1 0) x y p in
      subst (λ x. P x (get_or (set xs 1 z) 1 0)) (sym second-kept) (subst (P (get_or xs 0 0)) (sym second-set) rises) next

  abbrev Rises : ℕ → Type 0
  Rises o = IsWestOf (set xs (o / 2) z) ts p → moved_in false (get_or ks (o / 2) 0) (is_plus o) (get_or xs (o / 2) 0) ≡ Some z → rank_over ks xs o < rank_over ks (set xs (o / 2) z) p

  rises-west : get_or ts 0 0 < get_or xs 0 0 → Rises 1
  rises-west l next moved = at (moved-down false (get_or ks 0 0) (get_or xs 0 0) z moved)
    where
      at : ((0 < get_or xs 0 0) × (z ≡ get_or xs 0 0 - 1)) ⊎ ((get_or xs 0 0 ≤ 0) × (false ≡ true) × (z ≡ get_or ks 0 0 - 1)) → rank_over ks xs 1 < rank_over ks (set xs 0 z) p
      at (inl s) = along-first (rank_over ks xs 1) next (λ y. from-west (get_or ks 0 0) (get_or ks 1 0) (get_or xs 0 0) z y (get_or ts 0 0) (get_or ts 1 0) p column (omega (arith, s.0, s.1)) (omega (arith, s.1, l)))
      at (inr s) = absurd (false≢true s.1)

  rises-east : get_or xs 0 0 < get_or ts 0 0 → Rises 0
  rises-east l next moved = at (moved-up false (get_or ks 0 0) (get_or xs 0 0) z moved)
    where
      at : ((get_or xs 0 0 + 1 < get_or ks 0 0) × (z ≡ get_or xs 0 0 + 1)) ⊎ ((get_or ks 0 0 ≤ get_or xs 0 0 + 1) × (false ≡ true) × (z ≡ 0)) → rank_over ks xs 0 < rank_over ks (set xs 0 z) p
      at (inl s) =
          let Q : ℕ → ℕ → Type 0 = λ y x. IsWest x y (get_or ts 0 0) (get_or ts 1 0) p → rank_over ks xs 0 < west_rank (get_or ks 0 0) (get_or ks 1 0) x y p in
          along-first (rank_over ks xs 0) next (λ y. subst (Q y) (sym s.1) (from-east (get_or ks 0 0) (get_or ks 1 0) (get_or xs 0 0) y (get_or ts 0 0) (get_or ts 1 0) p l))
      at (inr s) = absurd (false≢true s.1)

  rises-north : get_or xs 0 0 ≤ get_or ts 0 0 → get_or xs 1 0 < get_or ts 1 0 → Rises 2
  rises-north on l next moved = at (moved-up false (get_or ks 1 0) (get_or xs 1 0) z moved)
    where
      at : ((get_or xs 1 0 + 1 < get_or ks 1 0) × (z ≡ get_or xs 1 0 + 1)) ⊎ ((get_or ks 1 0 ≤ get_or xs 1 0 + 1) × (false ≡ true) × (z ≡ 0)) → rank_over ks xs 2 < rank_over ks (set xs 1 z) p
      at (inl s) =
          let Q : ℕ → Type 0 = λ y. IsWest (get_or xs 0 0) y (get_or ts 0 0) (get_or ts 1 0) p → rank_over ks xs 2 < west_rank (get_or ks 0 0) (get_or ks 1 0) (get_or xs 0 0) y p in
          along-second (rank_over ks xs 2) next (subst Q (sym s.1) (from-north (get_or ks 0 0) (get_or ks 1 0) (get_or xs 0 0) (get_or xs 1 0) (get_or ts 0 0) (get_or ts 1 0) p on l end))
      at (inr s) = absurd (false≢true s.1)

  rises-south : get_or xs 0 0 ≤ get_or ts 0 0 → get_or ts 1 0 < get_or xs 1 0 → Rises 3
  rises-south on l next moved = at (moved-down false (get_or ks 1 0) (get_or xs 1 0) z moved)
    where
      at : ((0 < get_or xs 1 0) × (z ≡ get_or xs 1 0 - 1)) ⊎ ((get_or xs 1 0 ≤ 0) × (false ≡ true) × (z ≡ get_or ks 1 0 - 1)) → rank_over ks xs 3 < rank_over ks (set xs 1 z) p
      at (inl s) = along-second (rank_over ks xs 3) next (from-south (get_or ks 0 0) (get_or ks 1 0) (get_or xs 0 0) (get_or xs 1 0) z (get_or ts 0 0) (get_or ts 1 0) p on l row (omega (arith, s.0, s.1)))
      at (inr s) = absurd (false≢true s.1)

  -- a step of west first rises
  pub west-rises : (o : ℕ) → IsWestOf xs ts o → Rises o
  west-rises o (west e l) = subst Rises (sym e) (rises-west l)
  west-rises o (east e l) = subst Rises (sym e) (rises-east l)
  west-rises o (north e on l) = subst Rises (sym e) (rises-north on l)
  west-rises o (south e on l) = subst Rises (sym e) (rises-south on l)
