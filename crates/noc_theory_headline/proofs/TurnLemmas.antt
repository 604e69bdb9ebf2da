-- The requester that comes first in turn, by a test and by what the test means.
use Rattle.std.proofs.Common.{◌≡◌, ◌≢◌, ℕ, ◌+◌, ◌-◌, ◌%◌, ◌<◌, ◌≤◌, Bool, true, Some, ap, sym, ◌∙◌, inl, inr, arith}
use Rattle.std.specs.Prelude.{◌⊎◌, filter}
use Rattle.std.proofs.lemmas.Bool.{cases_lt, cases_eq}
use Rattle.std.proofs.Math.Nat.{mod-eq_of_lt, add-mod_right}
use Rattle.noc_topo.specs.Lists.{below}
use Rattle.noc_alloc.specs.Arbiter.{distance_in_turn, first_in_turn}
use Rattle.noc_alloc.proofs.ArbiterLemmas.{first_in_turn-picks, nearest-is}
use Rattle.noc_theory.proofs.worms.StateWordLemmas.{Precedes}
use Rattle.noc_theory.proofs.worms.FirstOfNodeLemmas.{least_by-first}
use Rattle.noc_theory.proofs.worms.MemberLemmas.{Has-kept, Pairs-filter}
use Rattle.noc_theory.proofs.worms.OpeningLemmas.{below-has, below-rises}
use Rattle.noc_theory_headline.specs.Headline.{IsFirstInTurn}

-- a number below twice the size, modulo the size
abbrev Rest : ℕ → ℕ → Type 0
Rest n z = ((z < n) × (z % n ≡ z)) ⊎ ((n ≤ z) × (z % n + n ≡ z))

rest-of : (n z : ℕ) → z < n + n → Rest n z
rest-of n z l = by (cases_lt z n)
  where
    by : (z < n) ⊎ (n ≤ z) → Rest n z
    by (inl a) = inl (a, mod-eq_of_lt a)
    by (inr a) =
        let e : z ≡ (z - n) + n = omega arith in
        let m : z % n ≡ z - n = ap (λ k. k % n) e ∙ add-mod_right (z - n) n ∙ mod-eq_of_lt (omega arith) in
        inr (a, omega arith)

-- no two requesters stand equally far behind the pointer
apart : (n p x y : ℕ) → x < n → y < n → distance_in_turn n p x ≡ distance_in_turn n p y → x ≡ y
apart n p x y l u e = by (rest-of n (x + (n - p)) (omega arith)) (rest-of n (y + (n - p)) (omega arith))
  where
    by : Rest n (x + (n - p)) → Rest n (y + (n - p)) → x ≡ y
    by (inl a) (inl b) = let c = a.1 in let d = b.1 in omega arith
    by (inl a) (inr b) = let c = a.1 in let d = b.1 in omega arith
    by (inr a) (inl b) = let c = a.1 in let d = b.1 in omega arith
    by (inr a) (inr b) = let c = a.1 in let d = b.1 in omega arith

module _ (size pointer : ℕ) (asks : ℕ → Bool) (Asks : ℕ → Type 0) (to : (k : ℕ) → k < size → asks k ≡ true → Asks k) (from : (k : ℕ) → k < size → Asks k → asks k ≡ true) where
  pub turn-first : (x : ℕ) → first_in_turn size pointer asks ≡ Some x → IsFirstInTurn size pointer Asks x
  unfolding first_in_turn
  turn-first x e =
      let picked = first_in_turn-picks size pointer x asks e in
      record {
        exists = picked.1;
        asks = to x picked.1 picked.0;
        first = λ y l a. least (least_by-first (distance_in_turn size pointer) (filter asks (below size)) x y (Pairs-filter (λ (a b : ℕ). a < b) asks (below size) (below-rises size)) e (Has-kept asks y (below size) (below-has y size l) (from y l a)));
      }
    where
      least : {y : ℕ} → Precedes (distance_in_turn size pointer) x y → distance_in_turn size pointer x ≤ distance_in_turn size pointer y
      least (inl l) = omega arith
      least (inr r) = let e = r.0 in omega arith

  pub first-turn : (x : ℕ) → IsFirstInTurn size pointer Asks x → first_in_turn size pointer asks ≡ Some x
  first-turn x f = sym (nearest-is size pointer asks (Some x) (from x f.exists f.asks, f.exists, λ y l t other. farther y l (to y l t) other))
    where
      farther : (y : ℕ) → y < size → Asks y → y ≢ x → distance_in_turn size pointer x < distance_in_turn size pointer y
      farther y l a other = by (cases_eq (distance_in_turn size pointer x) (distance_in_turn size pointer y))
        where
          by : (distance_in_turn size pointer x ≡ distance_in_turn size pointer y) ⊎ (distance_in_turn size pointer x ≢ distance_in_turn size pointer y) → distance_in_turn size pointer x < distance_in_turn size pointer y
          by (inl same) = absurd (other (sym (apart size pointer x y f.exists l same)))
          by (inr far) = let least = f.first y l a in omega arith
