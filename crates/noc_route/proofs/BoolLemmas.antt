-- Tests, and tests in loops.
use Rattle.std.proofs.Common.{◌≡◌, ℕ, ◌+◌, ◌<◌, ◌≤◌, Bool, true, false, refl, sym, arith, inl, inr}
use Rattle.std.specs.Prelude.{◌&&◌, ◌||◌, ◌⊎◌, nat_lt, nat_eq}
use Rattle.std.proofs.Math.Bool.{and-false, or-false}
use Rattle.std.proofs.lemmas.Bool.{cases_lt, cases_eq, lt-ltb, le-ltb, eq-eqb, ne_eqb, false≢true}

-- two tests that pass together are one
pub same_test : (a b : Bool) → (a ≡ true → b ≡ true) → (b ≡ true → a ≡ true) → a ≡ b
same_test true b f g = sym (f refl)
same_test false true f g = absurd (false≢true (g refl))
same_test false false f g = refl

-- below the next number is below this one or it
pub lt_next : (k n : ℕ) → nat_lt k (n + 1) ≡ (nat_lt k n || nat_eq k n)
lt_next k n = at (cases_lt k n) (cases_eq k n)
  where
    at : (k < n) ⊎ (n ≤ k) → (k ≡ n) ⊎ (k ≡ n → ⊥) → nat_lt k (n + 1) ≡ (nat_lt k n || nat_eq k n)
    at (inl l) e = let a = lt-ltb k n l in let b = lt-ltb k (n + 1) (omega arith) in rw (a, b) refl
    at (inr g) (inl e) = let a = le-ltb k n g in let b = lt-ltb k (n + 1) (omega arith) in let s = eq-eqb k n e in rw (a, b, s) refl
    at (inr g) (inr ne) = let a = le-ltb k n g in let b = le-ltb k (n + 1) (omega arith) in let s = ne_eqb k n ne in rw (a, b, s) refl

-- after a test that passes, what is tested next may be put otherwise
pub and_where : (a b c : Bool) → (a ≡ true → b ≡ c) → (a && b) ≡ (a && c)
and_where true b c same = same refl
and_where false b c same = refl

-- a test that passes wherever another one does adds nothing to it
pub and-implied : (l b : Bool) → (b ≡ true → l ≡ true) → (l && b) ≡ b
and-implied l true h = let yes = h refl in rw yes refl
and-implied l false h = and-false l

pub and-or : (p a b : Bool) → ((p && a) || (p && b)) ≡ (p && (a || b))
and-or true a b = refl
and-or false a b = refl

-- what held below a number, or what is found at it, is what holds below the next
pub either_next : (x l b a : Bool) → (x ≡ true → b ≡ a) → ((l && b) || (x && a)) ≡ ((l || x) && b)
either_next true true b a h = let same = h refl in rw same (at a)
  where
    at : (a : Bool) → (a || a) ≡ a
    at true = refl
    at false = refl
either_next true false b a h = sym (h refl)
either_next false l b a h = rw (or-false (l && b), or-false l) refl
