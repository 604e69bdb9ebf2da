-- The first of the numbers below n that pass a test.
use Rattle.std.proofs.Common.{◌≡◌, ◌≢◌, ℕ, zero, suc, ◌+◌, ◌<◌, ◌≤◌, Bool, true, false, Option, Some, None, refl, ap, sym, ◌∙◌, arith, inl, inr}
use Rattle.std.specs.Prelude.{◌⊎◌, ◌&&◌, find, if◌then◌else◌}
use Rattle.std.specs.List.{range_with_len}
use Rattle.std.proofs.lemmas.Bool.{cases_eq, and_parts}
use Rattle.noc_topo.specs.Lists.{below}
use Rattle.noc_packet.specs.Set.{has_bit, in_both, IsLeast}
use Rattle.noc_alloc.specs.Members.{MembersAreBelow}

in_range-none : (p : ℕ → Bool) (n a : ℕ) → ((k : ℕ) → a ≤ k → k < a + n → p k ≡ false) → find p (range_with_len a n) ≡ None
in_range-none p zero a h = refl
in_range-none p (suc n) a h = rw (h a (omega arith) (omega arith)) (in_range-none p n (a + 1) (λ k l u. h k (omega arith) (omega arith)))

in_range-same : (p q : ℕ → Bool) (n a : ℕ) → ((k : ℕ) → a ≤ k → k < a + n → p k ≡ q k) → find p (range_with_len a n) ≡ find q (range_with_len a n)
in_range-same p q zero a h = refl
in_range-same p q (suc n) a h = rw (h a (omega arith) (omega arith), in_range-same p q n (a + 1) (λ k l u. h k (omega arith) (omega arith))) refl

in_range-at : (p : ℕ → Bool) (n a x : ℕ) → a ≤ x → x < a + n → p x ≡ true → ((k : ℕ) → a ≤ k → k < a + n → p k ≡ true → k ≡ x) → find p (range_with_len a n) ≡ Some x
in_range-at p zero a x l u t only = absurd (omega arith)
in_range-at p (suc n) a x l u t only = at (cases_eq a x) (p a) refl (λ other. in_range-at p n (a + 1) x (omega arith) (omega arith) t (λ k lk uk. only k (omega arith) (omega arith)))
  where
    at : (a ≡ x) ⊎ (a ≡ x → ⊥) → (b : Bool) → p a ≡ b → (a ≢ x → find p (range_with_len (a + 1) n) ≡ Some x) → find p (range_with_len a (suc n)) ≡ Some x
    at (inl same) b e rest = rw (ap p same ∙ t) (ap Some same)
    at (inr other) true e rest = absurd (other (only a (omega arith) (omega arith) e))
    at (inr other) false e rest = rw e (rest other)

in_range-some : (p : ℕ → Bool) (n a x : ℕ) → find p (range_with_len a n) ≡ Some x → (p x ≡ true) × (a ≤ x) × (x < a + n)
in_range-some p zero a x e = absurd (cc e)
in_range-some p (suc n) a x e = at (p a) refl (λ h. in_range-some p n (a + 1) x h)
  where
    at : (b : Bool) → p a ≡ b → (find p (range_with_len (a + 1) n) ≡ Some x → (p x ≡ true) × (a + 1 ≤ x) × (x < a + 1 + n)) → (p x ≡ true) × (a ≤ x) × (x < a + suc n)
    at true h rest =
        let s : Some a ≡ Some x = sym (let g : find p (range_with_len a (suc n)) ≡ Some a = rw h refl in g) ∙ e in
        let same : a ≡ x = cc in
        (ap p (sym same) ∙ h, omega arith, omega arith)
    at false h rest =
        let s : find p (range_with_len (a + 1) n) ≡ Some x = sym (let g : find p (range_with_len a (suc n)) ≡ find p (range_with_len (a + 1) n) = rw h refl in g) ∙ e in
        let r = rest s in
        (r.0, omega (arith, r.1), omega (arith, r.2))

pub find-none : (p : ℕ → Bool) (n : ℕ) → ((k : ℕ) → k < n → p k ≡ false) → find p (below n) ≡ None
unfolding below
find-none p n h = in_range-none p n 0 (λ k _ u. h k (omega arith))

pub find-same : (p q : ℕ → Bool) (n : ℕ) → ((k : ℕ) → k < n → p k ≡ q k) → find p (below n) ≡ find q (below n)
unfolding below
find-same p q n h = in_range-same p q n 0 (λ k _ u. h k (omega arith))

pub find-at : (p : ℕ → Bool) (n x : ℕ) → x < n → p x ≡ true → ((k : ℕ) → k < n → p k ≡ true → k ≡ x) → find p (below n) ≡ Some x
unfolding below
find-at p n x u t only = in_range-at p n 0 x (omega arith) (omega arith) t (λ k _ l. only k (omega arith))

pub find-some : (p : ℕ → Bool) (n x : ℕ) → find p (below n) ≡ Some x → (p x ≡ true) × (x < n)
unfolding below
find-some p n x e = let r = in_range-some p n 0 x e in (r.0, omega (arith, r.2))

in_range-first : (p : ℕ → Bool) (m a x : ℕ) → a ≤ x → x < a + m → p x ≡ true → ((k : ℕ) → k < x → p k ≡ false) → find p (range_with_len a m) ≡ Some x
in_range-first p zero a x l u e h = absurd (omega arith)
in_range-first p (suc m) a x l u e h =
    first_or (cases_eq a x) (λ n. in_range-first p m (a + 1) x (omega arith) (omega arith) e h)
  where
    first_or : (a ≡ x) ⊎ (a ≢ x) → (a ≢ x → find p (range_with_len (a + 1) m) ≡ Some x) → (if p a then Some a else find p (range_with_len (a + 1) m)) ≡ Some x
    first_or (inl same) rest = ap (λ b. if b then Some a else find p (range_with_len (a + 1) m)) (ap p same ∙ e) ∙ ap Some same
    first_or (inr other) rest = ap (λ b. if b then Some a else find p (range_with_len (a + 1) m)) (h a (omega arith)) ∙ rest other

-- one that passes, where none below it does
pub find-below : (p : ℕ → Bool) (n x : ℕ) → x < n → p x ≡ true → ((k : ℕ) → k < x → p k ≡ false) → find p (below n) ≡ Some x
unfolding below
find-below p n x l e h = in_range-first p n 0 x (omega arith) (omega arith) e h

-- the least number that is in two sets, of which the second says below n what a test says
pub find-least : (n set other : ℕ) (p : ℕ → Bool) (r : Option ℕ) → IsLeast (in_both set other) r → MembersAreBelow n other
    → ((k : ℕ) → k < n → has_bit other k ≡ p k) → r ≡ find (λ k. has_bit set k && p k) (below n)
find-least n set other p None least all same =
    sym (find-none (λ k. has_bit set k && p k) n (λ k l. ap (λ b. has_bit set k && b) (sym (same k l)) ∙ least k))
find-least n set other p (Some x) least all same =
    let u : x < n = all x (and_parts (has_bit set x) (has_bit other x) least.0).1 in
    sym (find-below (λ k. has_bit set k && p k) n x u (ap (λ b. has_bit set x && b) (sym (same x u)) ∙ least.0)
    (λ k l. ap (λ b. has_bit set k && b) (sym (same k (omega arith))) ∙ least.1 k l))
