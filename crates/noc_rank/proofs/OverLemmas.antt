-- The least of numbers over all classes and destinations.
use Rattle.std.proofs.Common.{◌≡◌, ℕ, ◌+◌, ◌*◌, ◌/◌, ◌%◌, ◌<◌, ◌≤◌, Option, ap, sym, subst, ◌∙◌, arith, inl, inr}
use Rattle.std.proofs.Math.Nat.{mul-le-mul_right}
use Rattle.std.specs.Prelude.{◌⊎◌}
use Rattle.std.proofs.lemmas.Bool.{cases_lt}
use Rattle.noc_topo.specs.Shape.{nodes}
use Rattle.noc_route.specs.Routes.{Routes}
use Rattle.noc_route.proofs.EntryLemmas.{flat-below, flat-div, flat-mod, index-port, pair-second}
use Rattle.noc_rank.specs.LeastAhead.{IsLeastOf, lesser}
use Rattle.noc_rank.specs.NotRisingTo.{IsOverFirst, IsOver}
use Rattle.noc_rank.proofs.LeastLemmas.{least-same, least-either}

-- one more pair, where k is the number of nodes
pub over-more : (routes : Routes) (P : ℕ → ℕ → ℕ → Type 0) (k i : ℕ) (best value : Option ℕ) → k ≡ nodes routes.grid → IsLeastOf (IsOverFirst routes P i) best → IsLeastOf (P (i / k) (i % k)) value
    → IsLeastOf (IsOverFirst routes P (i + 1)) (lesser best value)
over-more routes P k i best value count old one = least-same _ _ (lesser best value) to from (least-either _ _ best value old new)
  where
    new : IsLeastOf (P (i / nodes routes.grid) (i % nodes routes.grid)) value
    new = subst (λ n. IsLeastOf (P (i / n) (i % n)) value) count one

    to : (n : ℕ) → IsOverFirst routes P i n ⊎ P (i / nodes routes.grid) (i % nodes routes.grid) n → IsOverFirst routes P (i + 1) n
    to n (inl h) = record { number = h.number; below = omega (arith, h.below); holds = h.holds }
    to n (inr h) = record { number = i; below = omega arith; holds = h }

    from : (n : ℕ) → IsOverFirst routes P (i + 1) n → IsOverFirst routes P i n ⊎ P (i / nodes routes.grid) (i % nodes routes.grid) n
    from n h = at (cases_lt h.number i)
      where
        at : (h.number < i) ⊎ (i ≤ h.number) → IsOverFirst routes P i n ⊎ P (i / nodes routes.grid) (i % nodes routes.grid) n
        at (inl less) = inl (record { number = h.number; below = less; holds = h.holds })
        at (inr last) =
            let same : h.number ≡ i = omega (arith, last, h.below) in
            inr (subst (λ x. P (x / nodes routes.grid) (x % nodes routes.grid) n) same h.holds)

-- what holds for a class and a destination that exist holds over all of them
pub over-one : (routes : Routes) (P : ℕ → ℕ → ℕ → Type 0) (m t n : ℕ) → m < routes.classes → t < nodes routes.grid → P m t n → IsOver routes P n
over-one routes P m t n a b h =
    let class : (m * nodes routes.grid + t) / nodes routes.grid ≡ m = flat-div m (nodes routes.grid) t b in
    let dst : (m * nodes routes.grid + t) % nodes routes.grid ≡ t = flat-mod m (nodes routes.grid) t b in
    record {
      number = m * nodes routes.grid + t;
      below = flat-below m routes.classes t (nodes routes.grid) a b;
      holds = subst (λ x. P x ((m * nodes routes.grid + t) % nodes routes.grid) n) (sym class) (subst (λ x. P m x n) (sym dst) h);
    }

-- ---- the pairs by number, where c is the number of classes and k that of nodes

pub over-all : (routes : Routes) (P : ℕ → ℕ → ℕ → Type 0) (c k i : ℕ) (o : Option ℕ) → c ≡ routes.classes → k ≡ nodes routes.grid → i ≡ c * k → IsLeastOf (IsOverFirst routes P i) o → IsLeastOf (IsOver routes P) o
over-all routes P c k i o classes count last h = subst (λ n. IsLeastOf (IsOverFirst routes P n) o) (last ∙ ap (λ x. x * k) classes ∙ ap (λ x. routes.classes * x) count) h

pub pair-class : (routes : Routes) (c k i : ℕ) → c ≡ routes.classes → k ≡ nodes routes.grid → 2 ≤ k → i < c * k → i / k < routes.classes
pair-class routes c k i classes count some below = index-port i (c * k) routes.classes k (omega (arith, some)) (ap (λ x. x * k) classes) below

pub pair-dst : (routes : Routes) (k i : ℕ) → k ≡ nodes routes.grid → 2 ≤ k → i % k < nodes routes.grid
pair-dst routes k i count some = pair-second k (nodes routes.grid) i count (omega (arith, some))

pub pairs-few : (c k : ℕ) → c ≤ 4 → k ≤ 256 → c * k ≤ 1024
pairs-few c k classes count = let few : c * k ≤ 4 * k = mul-le-mul_right k classes in omega (arith, few, count)
