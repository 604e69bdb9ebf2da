-- A loop over the members of a set, from the least on: those that are left become one less in each
-- step.
use Rattle.std.proofs.Common.{◌≡◌, ◌≢◌, ℕ, ◌-◌, ◌^◌, ◌<◌, Bool, true, false, refl, Some, ap, sym, ◌∙◌, subst, inl, inr, bit_and}
use Rattle.std.specs.Prelude.{◌⊎◌, ◌&&◌, ◌||◌, not, nat_eq}
use Rattle.std.proofs.lemmas.Bool.{and_parts, cases_eq, eq-eqb, ne_eqb, false≢true, true≢false}
use Rattle.noc_packet.specs.Set.{has_bit, IsLeast}
use Rattle.noc_packet.proofs.SetLemmas.{both_members, has_bit-zero, least-one, same_set}
use Rattle.noc_sets.specs.Sets.{least, less, lowest}
use Rattle.noc_sets.proofs.MemberLemmas.{and-false, and-true, least_is, less_members, lowest_members}

-- the members but the least: `a & (a - 1)`
pub but_lowest-is : (a : ℕ) → bit_and a (a - 1) ≡ less a (lowest a)
but_lowest-is a = same_set _ _ (λ k. both_members a (a - 1) k ∙ at (has_bit a k) (has_bit (a - 1) k) ∙ sym (less_members a (lowest a) k ∙ ap (λ b. has_bit a k && not b) (less_members a (a - 1) k)))
  where
    at : (x y : Bool) → (x && y) ≡ (x && not (x && not y))
    at true true = refl
    at true false = refl
    at false y = refl

-- the least member
pub least-same : (a t : ℕ) → 0 < a → a < 2 ^ 64 → IsLeast (has_bit a) (Some t) → t ≡ least a
least-same a t some fits is = same (least-one (has_bit a) (Some t) (Some (least a)) is (least_is a some fits))
  where
    same : Some t ≡ Some (least a) → t ≡ least a
    same e = cc e

-- the members that are left
pub left-members : (rest t k : ℕ) → IsLeast (has_bit rest) (Some t) → has_bit (less rest (lowest rest)) k ≡ (has_bit rest k && not (nat_eq k t))
left-members rest t k is = less_members rest (lowest rest) k ∙ ap (λ b. has_bit rest k && not b) (lowest_members rest t k is)

-- those that are left are members
pub left-part : (set rest t : ℕ) → IsLeast (has_bit rest) (Some t) → ((i : ℕ) → has_bit rest i ≡ true → has_bit set i ≡ true)
    → (k : ℕ) → has_bit (less rest (lowest rest)) k ≡ true → has_bit set k ≡ true
left-part set rest t is part k e = part k (and_parts (has_bit rest k) (not (nat_eq k t)) (sym (left-members rest t k is) ∙ e)).0

-- the members of `set` that are not left, and the least that is left
pub not-left : (set rest t k : ℕ) → IsLeast (has_bit rest) (Some t) → ((i : ℕ) → has_bit rest i ≡ true → has_bit set i ≡ true)
    → (has_bit set k && not (has_bit (less rest (lowest rest)) k)) ≡ ((has_bit set k && not (has_bit rest k)) || nat_eq k t)
not-left set rest t k is part = ap (λ b. has_bit set k && not b) (left-members rest t k is) ∙ at (cases_eq k t)
  where
    at : (k ≡ t) ⊎ (k ≢ t) → (has_bit set k && not (has_bit rest k && not (nat_eq k t))) ≡ ((has_bit set k && not (has_bit rest k)) || nat_eq k t)
    at (inl same) =
        let member : has_bit rest k ≡ true = ap (has_bit rest) same ∙ is.0 in
        let whole : has_bit set k ≡ true = part k member in
        rw (whole, member, eq-eqb k t same) refl
    at (inr other) = rw (ne_eqb k t other) (split (has_bit set k) (has_bit rest k))
      where
        split : (a b : Bool) → (a && not (b && true)) ≡ ((a && not b) || false)
        split true true = refl
        split true false = refl
        split false b = refl

pub none-left : (set k : ℕ) → (has_bit set k && not (has_bit set k)) ≡ false
none-left set k = at (has_bit set k)
  where
    at : (b : Bool) → (b && not b) ≡ false
    at true = refl
    at false = refl

-- none is left
pub all-done : (set rest k : ℕ) → rest ≡ 0 → (has_bit set k && not (has_bit rest k)) ≡ has_bit set k
all-done set rest k none = ap (λ n. has_bit set k && not (has_bit n k)) none ∙ ap (λ b. has_bit set k && not b) (has_bit-zero k) ∙ and-true (has_bit set k)

-- the least of those that are left is not done
pub not-done : (set rest t : ℕ) → has_bit rest t ≡ true → (has_bit set t && not (has_bit rest t)) ≡ false
not-done set rest t e = ap (λ b. has_bit set t && not b) e ∙ and-false (has_bit set t)

-- one that is no more left, but for the least
pub was-left : (rest t k : ℕ) → IsLeast (has_bit rest) (Some t) → k ≢ t → has_bit (less rest (lowest rest)) k ≡ false → has_bit rest k ≡ false
was-left rest t k is other e =
    sym (and-true (has_bit rest k)) ∙ ap (λ b. has_bit rest k && not b) (sym (ne_eqb k t other)) ∙ sym (left-members rest t k is) ∙ e

-- `now` has what P says at the members of the set that are not left, and is as `old` elsewhere
pub record IsEach (A : Type 0) (P : ℕ → A → Type 0) (old now : ℕ → A) (set rest : ℕ) : Type 0 where
  pub part : (k : ℕ) → has_bit rest k ≡ true → has_bit set k ≡ true
  pub done : (k : ℕ) → has_bit set k ≡ true → has_bit rest k ≡ false → P k (now k)
  pub left : (k : ℕ) → has_bit rest k ≡ true → now k ≡ old k
  pub kept : (k : ℕ) → has_bit set k ≡ false → now k ≡ old k

module _ (A : Type 0) (P : ℕ → A → Type 0) (old : ℕ → A) (set : ℕ) where
  pub each-none : IsEach A P old old set set
  each-none = record {
    part = λ k e. e;
    done = λ k a b. absurd (true≢false (sym a ∙ b));
    left = λ k e. refl;
    kept = λ k e. refl;
  }

  -- the least of those that are left
  pub each-next : (now new : ℕ → A) (rest t : ℕ) → IsLeast (has_bit rest) (Some t) → IsEach A P old now set rest
      → P t (new t) → ((k : ℕ) → k ≢ t → new k ≡ now k) → IsEach A P old new set (less rest (lowest rest))
  each-next now new rest t is each here others = record {
    part = left-part set rest t is each.part;
    done = λ k a b. done k a b (cases_eq k t);
    left = λ k e. others k (apart k e) ∙ each.left k (both k e).0;
    kept = λ k e. others k (λ same. true≢false (sym (each.part t is.0) ∙ ap (has_bit set) (sym same) ∙ e)) ∙ each.kept k e;
  }
    where
      both : (k : ℕ) → has_bit (less rest (lowest rest)) k ≡ true → (has_bit rest k ≡ true) × (not (nat_eq k t) ≡ true)
      both k e = and_parts (has_bit rest k) (not (nat_eq k t)) (sym (left-members rest t k is) ∙ e)

      apart : (k : ℕ) → has_bit (less rest (lowest rest)) k ≡ true → k ≢ t
      apart k e same = false≢true (ap not (sym (eq-eqb k t same)) ∙ (both k e).1)

      done : (k : ℕ) → has_bit set k ≡ true → has_bit (less rest (lowest rest)) k ≡ false → (k ≡ t) ⊎ (k ≢ t) → P k (new k)
      done k a b (inl same) = subst (λ (x : ℕ). P x (new x)) (sym same) here
      done k a b (inr other) = subst (P k) (sym (others k other)) (each.done k a (was-left rest t k is other b))

  -- the next step of a walk, in the words of the code
  pub each-stepped : (now new : ℕ → A) (rest left t : ℕ) → IsLeast (has_bit rest) (Some t) → IsEach A P old now set rest
      → P t (new t) → ((k : ℕ) → k ≢ t → new k ≡ now k) → left ≡ less rest (lowest rest) → IsEach A P old new set left
  each-stepped now new rest left t is each here others left_is = subst (IsEach A P old new set) (sym left_is) (each-next now new rest t is each here others)

  -- none is left
  pub each-all : (now : ℕ → A) (rest : ℕ) → rest ≡ 0 → IsEach A P old now set rest → (k : ℕ) → has_bit set k ≡ true → P k (now k)
  each-all now rest none each k e = each.done k e (ap (λ x. has_bit x k) none ∙ has_bit-zero k)
