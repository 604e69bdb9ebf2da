-- The channels whose flits move in a cycle, as a set.
use Rattle.std.proofs.Common.{◌≡◌, ℕ, ◌/◌, ◌%◌, ◌^◌, ◌<◌, ◌≤◌, Bool, true, false, None, refl, ap, sym, ◌∙◌, arith, inl, inr}
use Rattle.std.specs.Prelude.{◌⊎◌, ◌&&◌, ◌||◌, nat_eq, nat_lt, slice_index_or, if◌then◌else◌}
use Rattle.noc_sets.proofs.UnionLemmas.{some-none, some-one}
use Rattle.noc_theory_bits.proofs.Common.{cases_lt, eq-eqb, le-ltb, lt-ltb, ne_eqb, is_some_of, has_bit, has_bit-zero, is_won_from, View, size_of, view_input, view_round, Setup, some_below, union_from, power-members, AreMoved, union-members, frozen_of}
use Rattle.noc_sets.proofs.MemberLemmas.{and-false, and-true}

-- ---- a set by a test

-- the numbers below n of which a test holds
abbrev pub set_below : ℕ → (ℕ → Bool) → ℕ
set_below n test = union_from 0 n (λ i. if test i then 2 ^ i else 0)

pub set-members : (n : ℕ) (test : ℕ → Bool) (k : ℕ) → has_bit (set_below n test) k ≡ (nat_lt k n && test k)
set-members n test k =
    union-members 0 n (λ i. if test i then 2 ^ i else 0) k
    ∙ ap (λ b. b || some_below n (λ q. has_bit (if test q then 2 ^ q else 0) k)) (has_bit-zero k)
    ∙ at (cases_lt k n)
  where
    one : (q : ℕ) (b : Bool) → has_bit (if b then 2 ^ q else 0) k ≡ (b && nat_eq k q)
    one q true = power-members q k
    one q false = has_bit-zero k

    at : (k < n) ⊎ (n ≤ k) → some_below n (λ q. has_bit (if test q then 2 ^ q else 0) k) ≡ (nat_lt k n && test k)
    at (inl l) =
        some-one n k (λ q. has_bit (if test q then 2 ^ q else 0) k) l
        (λ q u other. one q (test q) ∙ ap (λ b. test q && b) (ne_eqb k q (λ e. other (sym e))) ∙ and-false (test q))
        ∙ one k (test k) ∙ ap (λ b. test k && b) (eq-eqb k k refl) ∙ and-true (test k) ∙ sym (ap (λ b. b && test k) (lt-ltb k n l))
    at (inr u) =
        some-none n (λ q. has_bit (if test q then 2 ^ q else 0) k)
        (λ q v. one q (test q) ∙ ap (λ b. test q && b) (ne_eqb k q (λ e. absurd (omega (arith, e, u, v)))) ∙ and-false (test q))
        ∙ sym (ap (λ b. b && test k) (le-ltb k n u))

-- ---- the channels that move

-- whether the round of a view moves the flit of channel k
abbrev pub is_moving_in : View → ℕ → Bool
is_moving_in v k = is_some_of (slice_index_or (view_round v).picks (k / v.site.vcs) None) (k % v.site.vcs) && is_won_from v (view_round v) k (view_input v k).phase

-- the channels of which it does
abbrev pub moves_in : View → ℕ
moves_in v = set_below (size_of v.site) (is_moving_in v)

pub moves-are : (v : View) → AreMoved v (moves_in v)
moves-are v = record { each = λ k l. set-members (size_of v.site) (is_moving_in v) k ∙ ap (λ b. b && is_moving_in v k) (lt-ltb k (size_of v.site) l) }

-- by router, the channels that move in cycle n of a network
abbrev pub moves_at : Setup → ℕ → ℕ → ℕ
moves_at net n r = moves_in (frozen_of net n r)
