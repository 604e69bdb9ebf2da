-- The count of a channel, level by level.
use Rattle.std.proofs.Common.{◌≡◌, ℕ, zero, suc, ◌+◌, ◌-◌, ◌*◌, ◌/◌, ◌%◌, ◌^◌, ◌<◌, ◌≤◌, Bool, true, false, List, [], length, set, refl, ap, sym, ◌∙◌, subst, arith, inl, inr, add-one, pow-suc, pow-add, get_or-set_same, get_or-set_other}
use Rattle.std.specs.Prelude.{◌&&◌, ◌||◌, slice_index_or, bit_and, bit_xor}
use Rattle.std.specs.Int.{bit_at}
use Rattle.std.proofs.lemmas.Bool.{cases_lt}
use Rattle.std.proofs.Math.Pow.{pow_mono}
use Rattle.std.proofs.lemmas.Nat.{pow_pos, shl_whole, shr-shr, div-mul-add}
use Rattle.noc_packet.specs.Set.{has_bit}
use Rattle.noc_packet.proofs.SetLemmas.{both_members, either_members, has_bit-one, has_bit-none, has_bit-same, has_bit-zero}
use Rattle.noc_topo.specs.Lists.{one_if}
use Rattle.noc_columns.specs.Words.{word}
use Rattle.noc_sets.specs.Sets.{differ}
use Rattle.noc_counts.specs.Tallies.{at_level, bit_level, carry_over, number_by, sum_of, with_four}
use Rattle.noc_sets.proofs.MemberLemmas.{xor_members}

three : (s p x : Bool) → one_if (differ (differ s p) x) + 2 * one_if ((s && p) || (differ s p && x)) ≡ one_if s + one_if p + one_if x
three true true true = omega arith
three true true false = omega arith
three true false true = omega arith
three true false false = omega arith
three false true true = omega arith
three false true false = omega arith
three false false true = omega arith
three false false false = omega arith

sum-members : (s p x k : ℕ) → has_bit (sum_of s p x) k ≡ differ (differ (has_bit s k) (has_bit p k)) (has_bit x k)
sum-members s p x k = xor_members (bit_xor s p) x k ∙ ap (λ b. differ b (has_bit x k)) (xor_members s p k)

carry-members : (s p x k : ℕ) → has_bit (carry_over s p x) k ≡ ((has_bit s k && has_bit p k) || (differ (has_bit s k) (has_bit p k) && has_bit x k))
carry-members s p x k =
    either_members (bit_and s p) (bit_and (bit_xor s p) x) k
    ∙ ap (λ b. b || has_bit (bit_and (bit_xor s p) x) k) (both_members s p k)
    ∙ ap (λ b. (has_bit s k && has_bit p k) || b) (both_members (bit_xor s p) x k ∙ ap (λ b. b && has_bit x k) (xor_members s p k))

-- three words added
pub added-three : (s p x k : ℕ) → one_if (has_bit (sum_of s p x) k) + 2 * one_if (has_bit (carry_over s p x) k) ≡ one_if (has_bit s k) + one_if (has_bit p k) + one_if (has_bit x k)
added-three s p x k = rw (sum-members s p x k, carry-members s p x k) (three (has_bit s k) (has_bit p k) (has_bit x k))

-- the words of four cycles added to the two lowest bits
pub added-four : (ones twos a b c d k : ℕ)
    → one_if (has_bit (with_four ones twos a b c d).ones k) + 2 * one_if (has_bit (with_four ones twos a b c d).twos k) + 4 * one_if (has_bit (with_four ones twos a b c d).carry k)
    ≡ one_if (has_bit ones k) + 2 * one_if (has_bit twos k) + one_if (has_bit a k) + one_if (has_bit b k) + one_if (has_bit c k) + one_if (has_bit d k)
added-four ones twos a b c d k =
    omega (arith, added-three ones a b k, added-three (sum_of ones a b) c d k, added-three twos (carry_over ones a b) (carry_over (sum_of ones a b) c d) k)

-- ---- numbers by digits
pub number-same : (f g : ℕ → ℕ) (n : ℕ) → ((i : ℕ) → i < n → f i ≡ g i) → number_by f n ≡ number_by g n
unfolding number_by
number-same f g zero same = refl
number-same f g (suc n) same = rw (number-same f g n (λ i l. same i (omega arith)), same n (omega arith)) refl

pub number-none : (f : ℕ → ℕ) → 0 ≡ number_by f 0
unfolding number_by
number-none f = refl

pub number-next : (f : ℕ → ℕ) (n : ℕ) → number_by f (suc n) ≡ number_by f n + 2 ^ n * f n
unfolding number_by
number-next f n = refl

-- digits that are the same from place m on
pub number-above : (f g : ℕ → ℕ) (m n x y : ℕ) → m ≤ n → ((i : ℕ) → m ≤ i → i < n → f i ≡ g i) → number_by f m + x ≡ number_by g m + y
    → number_by f n + x ≡ number_by g n + y
unfolding number_by
number-above f g m zero x y l same is = let e : m ≡ 0 = omega arith in subst (λ m. number_by f m + x ≡ number_by g m + y) e is
number-above f g m (suc n) x y l same is = elim (cases_lt m (suc n)) [
  | inl below ↦
      let rest : number_by f n + x ≡ number_by g n + y = number-above f g m n x y (omega arith) (λ i a b. same i a (omega arith)) is in
      let here : 2 ^ n * f n ≡ 2 ^ n * g n = ap (λ d. 2 ^ n * d) (same n (omega arith) (omega arith)) in
      omega (arith, rest, here)
  | inr above ↦ let e : m ≡ suc n = omega arith in subst (λ m. number_by f m + x ≡ number_by g m + y) e is
]

pub number-small : (f : ℕ → ℕ) (n : ℕ) → ((i : ℕ) → i < n → f i < 3) → number_by f n + 2 ≤ 2 * 2 ^ n
unfolding number_by
number-small f zero small = omega arith
number-small f (suc n) small =
    let rest = number-small f n (λ i l. small i (omega arith)) in
    let e : 2 ^ suc n ≡ 2 ^ n * 2 = pow-suc 2 n in
    let m : 2 ^ n * f n ≤ 2 ^ n * 2 = most (2 ^ n) (f n) (small n (omega arith)) in
    omega (arith, rest, e, m)
  where
    most : (p d : ℕ) → d < 3 → p * d ≤ p * 2
    most p zero l = omega arith
    most p (suc zero) l = omega arith
    most p (suc (suc zero)) l = omega arith
    most p (suc (suc (suc d))) l = absurd (omega arith)

-- ---- the bits of the number that follows
-- where all bits below t are set
ones-whole : (n t : ℕ) → ((i : ℕ) → i < t → bit_at n i ≡ 1) → (n / 2 ^ t + 1) * 2 ^ t ≡ n + 1
ones-whole n zero ones = omega arith
ones-whole n (suc t) ones =
    let rest : (n / 2 ^ t + 1) * 2 ^ t ≡ n + 1 = ones-whole n t (λ i l. ones i (omega arith)) in
    let e : 2 ^ suc t ≡ 2 ^ t * 2 = pow-suc 2 t in
    let s : n / 2 ^ t / 2 ^ 1 ≡ n / 2 ^ (t + 1) = shr-shr n t 1 in
    let s1 : n / 2 ^ t / 2 ≡ n / 2 ^ suc t = s ∙ ap (λ k. n / 2 ^ k) (add-one t) in
    let o : n / 2 ^ t % 2 ≡ 1 = ones t (omega arith) in
    halves (n / 2 ^ t) (n / 2 ^ suc t) (2 ^ t) (2 ^ suc t) (n + 1) rest e s1 o
  where
    halves : (a b p q m : ℕ) → (a + 1) * p ≡ m → q ≡ p * 2 → a / 2 ≡ b → a % 2 ≡ 1 → (b + 1) * q ≡ m
    halves a b p q m r e h o =
        let d : a ≡ 2 * b + 1 = omega arith in
        let f : (a + 1) * p ≡ (2 * b + 1 + 1) * p = ap (λ x. (x + 1) * p) d in
        let g : (b + 1) * q ≡ (b + 1) * (p * 2) = ap (λ x. (b + 1) * x) e in
        g ∙ (let i : (b + 1) * (p * 2) ≡ (2 * b + 1 + 1) * p = omega arith in i) ∙ sym f ∙ r

module _ (n t : ℕ) (ones : (i : ℕ) → i < t → bit_at n i ≡ 1) (none : bit_at n t ≡ 0) where
  next-at : bit_at (n + 1) t ≡ 1
  next-at =
      let w : (n / 2 ^ t + 1) * 2 ^ t + 0 ≡ n + 1 = omega (arith, ones-whole n t ones) in
      let q : (n + 1) / 2 ^ t ≡ n / 2 ^ t + 1 = ap (λ x. x / 2 ^ t) (sym w) ∙ div-mul-add (n / 2 ^ t + 1) (2 ^ t) 0 (pow_pos t) in
      let z : n / 2 ^ t % 2 ≡ 0 = none in
      omega (arith, q, z)

  next-below : (i : ℕ) → i < t → bit_at (n + 1) i ≡ 0
  next-below i l =
      let r = n / 2 ^ t + 1 in
      let k = t - i - 1 in
      let e : t ≡ suc k + i = omega arith in
      let p : 2 ^ t ≡ 2 ^ k * 2 * 2 ^ i = ap (λ x. 2 ^ x) e ∙ pow-add 2 (suc k) i ∙ ap (λ x. x * 2 ^ i) (pow-suc 2 k) in
      let w : r * 2 ^ t ≡ n + 1 = ones-whole n t ones in
      let s : r * 2 ^ k * 2 * 2 ^ i + 0 ≡ n + 1 = regroup r (2 ^ k) (2 ^ i) (2 ^ t) p ∙ w in
      let q : (n + 1) / 2 ^ i ≡ r * 2 ^ k * 2 = ap (λ x. x / 2 ^ i) (sym s) ∙ div-mul-add (r * 2 ^ k * 2) (2 ^ i) 0 (pow_pos i) in
      even (r * 2 ^ k) ((n + 1) / 2 ^ i) q
    where
      regroup : (r a b p : ℕ) → p ≡ a * 2 * b → r * a * 2 * b + 0 ≡ r * p
      regroup r a b p e = let f : r * a * 2 * b + 0 ≡ r * (a * 2 * b) = omega arith in f ∙ ap (λ x. r * x) (sym e)

      even : (h x : ℕ) → x ≡ h * 2 → x % 2 ≡ 0
      even h x e = omega arith

  next-above : (i : ℕ) → t < i → bit_at (n + 1) i ≡ bit_at n i
  next-above i l =
      let d = i - t - 1 in
      let e : i ≡ t + (1 + d) = omega arith in
      let w : (n / 2 ^ t + 1) * 2 ^ t + 0 ≡ n + 1 = omega (arith, ones-whole n t ones) in
      let q : (n + 1) / 2 ^ t ≡ n / 2 ^ t + 1 = ap (λ x. x / 2 ^ t) (sym w) ∙ div-mul-add (n / 2 ^ t + 1) (2 ^ t) 0 (pow_pos t) in
      let z : n / 2 ^ t % 2 ≡ 0 = none in
      let h : (n + 1) / 2 ^ t / 2 ^ 1 ≡ n / 2 ^ t / 2 ^ 1 = omega (arith, q, z) in
      let f : (x : ℕ) → x / 2 ^ i ≡ x / 2 ^ t / 2 ^ 1 / 2 ^ d = λ x. ap (λ k. x / 2 ^ k) e ∙ sym (shr-shr x t (1 + d)) ∙ sym (shr-shr (x / 2 ^ t) 1 d) in
      ap (λ x. x % 2) (f (n + 1) ∙ ap (λ x. x / 2 ^ d) h ∙ sym (f n))

-- ---- what is carried goes up
-- the levels below this one have taken what was pending at them, and what is carried on
pub record IsCarried (size : ℕ) (bits0 pending : List (List ℕ)) (carry0 : List ℕ) (times : ℕ) (bits : List (List ℕ)) (carry : List ℕ) (level : ℕ) : Type 0 where
  pub low : (j k : ℕ) → j < size
      → number_by (bit_level bits j k) level + 2 ^ level * one_if (has_bit (word j carry) k)
      ≡ number_by (at_level bits0 pending times j k) level + one_if (has_bit (word j carry0) k)
  pub left : (i : ℕ) → level ≤ i → slice_index_or bits i [] ≡ slice_index_or bits0 i []

module _ (size : ℕ) (bits0 pending : List (List ℕ)) (carry0 : List ℕ) (times : ℕ) where
  pub carried-none : IsCarried size bits0 pending carry0 times bits0 carry0 0
  unfolding number_by
  carried-none = record { low = λ j k l. omega arith; left = λ i l. refl }

  -- where this is what is pending at the level
  pub carried-next : (bits : List (List ℕ)) (carry more sum_words next : List ℕ) (level : ℕ) → IsCarried size bits0 pending carry0 times bits carry level
      → level < length bits
      → ((j k : ℕ) → one_if (has_bit times level && has_bit (word j (slice_index_or pending level [])) k) ≡ one_if (has_bit (word j more) k))
      → ((j : ℕ) → j < size → word j sum_words ≡ sum_of (word j (slice_index_or bits level [])) (word j more) (word j carry))
      → ((j : ℕ) → j < size → word j next ≡ carry_over (word j (slice_index_or bits level [])) (word j more) (word j carry))
      → IsCarried size bits0 pending carry0 times (set bits level sum_words) next (level + 1)
  carried-next bits carry more sum_words next level carried fits is sum over = record {
    low = λ j k l. subst
        (λ n. number_by (bit_level (set bits level sum_words) j k) n + 2 ^ n * one_if (has_bit (word j next) k)
        ≡ number_by (at_level bits0 pending times j k) n + one_if (has_bit (word j carry0) k))
        (sym (add-one level)) (at j k l);
    left = λ i l. get_or-set_other bits level i sum_words [] (omega arith) ∙ carried.left i (omega arith);
  }
    where
      at : (j k : ℕ) → j < size
          → number_by (bit_level (set bits level sum_words) j k) (suc level) + 2 ^ suc level * one_if (has_bit (word j next) k)
          ≡ number_by (at_level bits0 pending times j k) (suc level) + one_if (has_bit (word j carry0) k)
      at j k l =
          let s = word j (slice_index_or bits level []) in
          let p = word j more in
          let x = word j carry in
          let below : number_by (bit_level (set bits level sum_words) j k) level ≡ number_by (bit_level bits j k) level =
          number-same (bit_level (set bits level sum_words) j k) (bit_level bits j k) level (λ i b. ap (λ r. one_if (has_bit (word j r) k))
          (get_or-set_other bits level i sum_words [] (omega arith))) in
          let here : bit_level (set bits level sum_words) j k level ≡ one_if (has_bit (sum_of s p x) k) =
          ap (λ r. one_if (has_bit (word j r) k)) (get_or-set_same bits level sum_words [] fits) ∙ ap (λ w. one_if (has_bit w k)) (sum j l) in
          let on : one_if (has_bit (word j next) k) ≡ one_if (has_bit (carry_over s p x) k) = ap (λ w. one_if (has_bit w k)) (over j l) in
          let had : at_level bits0 pending times j k level ≡ one_if (has_bit s k) + one_if (has_bit p k) =
          ap (λ r. one_if (has_bit (word j r) k) + one_if (has_bit times level && has_bit (word j (slice_index_or pending level [])) k))
          (sym (carried.left level (omega arith)))
          ∙ ap (λ n. one_if (has_bit s k) + n) (is j k) in
          ap (λ n. n + 2 ^ suc level * one_if (has_bit (word j next) k)) (number-next (bit_level (set bits level sum_words) j k) level)
          ∙ step (2 ^ level) (2 ^ suc level) (bit_level (set bits level sum_words) j k level) (one_if (has_bit (word j next) k))
          (at_level bits0 pending times j k level) (one_if (has_bit x k)) _ _ _ _
          (pow-suc 2 level) (omega (arith, here, on, had, added-three s p x k)) below (carried.low j k l)
          ∙ ap (λ n. n + one_if (has_bit (word j carry0) k)) (sym (number-next (at_level bits0 pending times j k) level))
        where
          step : (p q sum c a x low0 low lower c0 : ℕ) → q ≡ p * 2 → sum + 2 * c ≡ a + x → low0 ≡ low → low + p * x ≡ lower + c0 → low0 + p * sum + q * c
              ≡ lower + p * a + c0
          step p q sum c a x low0 low lower c0 e s b is =
              let f : q * c ≡ p * 2 * c = ap (λ z. z * c) e in
              let g : p * (sum + 2 * c) ≡ p * (a + x) = ap (λ z. p * z) s in
              omega (arith, f, g)

  -- it stays at the lowest level whose bit of `times` is not set
  pub carried-all : (bits : List (List ℕ)) (carry stays : List ℕ) (t : ℕ) → ((j : ℕ) → j < size → word j stays ≡ word j carry) → IsCarried size bits0 pending carry0 times bits carry t → t < length pending → t < 30
      → ((i : ℕ) → i < t → bit_at times i ≡ 1) → bit_at times t ≡ 0 → (j k : ℕ) → j < size
      → number_by (at_level bits (set pending t stays) (times + 1) j k) 30
      ≡ number_by (at_level bits0 pending times j k) 30 + one_if (has_bit (word j carry0) k)
  carried-all bits carry stays t same carried fits few ones none j k l =
      let new = at_level bits (set pending t stays) (times + 1) j k in
      let old = at_level bits0 pending times j k in
      let sum : number_by new 30 + 0 ≡ number_by old 30 + one_if (has_bit (word j carry0) k) =
      number-above new old (suc t) 30 0 (one_if (has_bit (word j carry0) k)) (omega arith) (λ i a b. above i a) upto in
      omega (arith, sum)
    where
      above : (i : ℕ) → suc t ≤ i → at_level bits (set pending t stays) (times + 1) j k i ≡ at_level bits0 pending times j k i
      above i a =
          ap (λ r. one_if (has_bit (word j r) k) + one_if (has_bit (times + 1) i && has_bit (word j (slice_index_or (set pending t stays) i [])) k))
          (carried.left i (omega arith))
          ∙ ap (λ r. one_if (has_bit (word j (slice_index_or bits0 i [])) k) + one_if (has_bit (times + 1) i && has_bit (word j r) k))
          (get_or-set_other pending t i stays [] (omega arith))
          ∙ ap (λ n. one_if (has_bit (word j (slice_index_or bits0 i [])) k) + one_if (n && has_bit (word j (slice_index_or pending i [])) k))
          (has_bit-same (times + 1) times i (next-above times t ones none i (omega arith)))

      below : (i : ℕ) → i < t → at_level bits (set pending t stays) (times + 1) j k i ≡ bit_level bits j k i
      below i b =
          ap (λ n. bit_level bits j k i + one_if (n && has_bit (word j (slice_index_or (set pending t stays) i [])) k)) (has_bit-none (times + 1) i
          (next-below times t ones none i b)) ∙ nothing (bit_level bits j k i)
        where
          nothing : (n : ℕ) → n + 0 ≡ n
          nothing n = omega arith

      here : at_level bits (set pending t stays) (times + 1) j k t ≡ bit_level bits0 j k t + one_if (has_bit (word j carry) k)
      here =
          ap (λ r. one_if (has_bit (word j r) k) + one_if (has_bit (times + 1) t && has_bit (word j (slice_index_or (set pending t stays) t [])) k))
          (carried.left t (omega arith))
          ∙ ap (λ r. bit_level bits0 j k t + one_if (has_bit (times + 1) t && has_bit (word j r) k)) (get_or-set_same pending t stays [] fits)
          ∙ ap (λ w. bit_level bits0 j k t + one_if (has_bit (times + 1) t && has_bit w k)) (same j l)
          ∙ ap (λ n. bit_level bits0 j k t + one_if (n && has_bit (word j carry) k)) (has_bit-one (times + 1) t (next-at times t ones none))

      was : at_level bits0 pending times j k t ≡ bit_level bits0 j k t + 0
      was = ap (λ n. bit_level bits0 j k t + one_if (n && has_bit (word j (slice_index_or pending t [])) k)) (has_bit-none times t none)

      upto : number_by (at_level bits (set pending t stays) (times + 1) j k) (suc t) + 0
          ≡ number_by (at_level bits0 pending times j k) (suc t) + one_if (has_bit (word j carry0) k)
      upto =
          let low : number_by (at_level bits (set pending t stays) (times + 1) j k) t ≡ number_by (bit_level bits j k) t =
          number-same (at_level bits (set pending t stays) (times + 1) j k) (bit_level bits j k) t below in
          ap (λ n. n + 0) (number-next (at_level bits (set pending t stays) (times + 1) j k) t)
          ∙ last (2 ^ t) (at_level bits (set pending t stays) (times + 1) j k t) (at_level bits0 pending times j k t) (bit_level bits0 j k t) (one_if
          (has_bit (word j carry) k)) _ _ _ _ low here was (carried.low j k l)
          ∙ ap (λ n. n + one_if (has_bit (word j carry0) k)) (sym (number-next (at_level bits0 pending times j k) t))
        where
          last : (p a b s x low0 low lower c0 : ℕ) → low0 ≡ low → a ≡ s + x → b ≡ s + 0 → low + p * x ≡ lower + c0 → low0 + p * a + 0 ≡ lower + p * b + c0
          last p a b s x low0 low lower c0 e ea eb is =
              let f : p * a ≡ p * (s + x) = ap (λ z. p * z) ea in
              let g : p * b ≡ p * (s + 0) = ap (λ z. p * z) eb in
              omega (arith, f, g)

-- below 2^30 - 1 the lowest bit that is not set is one of the levels
pub last-small : (n t : ℕ) → n + 1 < 2 ^ 30 → ((i : ℕ) → i < t → bit_at n i ≡ 1) → t < 30
last-small n t few ones = elim (cases_lt t 30) [
  | inl l ↦ l
  | inr l ↦ let w : (n / 2 ^ 30 + 1) * 2 ^ 30 ≡ n + 1 = ones-whole n 30 (λ i b. ones i (omega arith)) in absurd (omega arith)
]

-- ---- a count is added up from its levels
one-few : (b : Bool) → one_if b < 2
one-few true = omega arith
one-few false = omega arith

pub level-small : (bits pending : List (List ℕ)) (times j k i : ℕ) → at_level bits pending times j k i < 3
level-small bits pending times j k i =
    omega (arith, one-few (has_bit (word j (slice_index_or bits i [])) k), one-few (has_bit times i && has_bit (word j (slice_index_or pending i [])) k))

pub level-up : (x level : ℕ) → x < 3 → level < 30 → x * 2 ^ level % 2 ^ 64 ≡ 2 ^ level * x
level-up x level small few = let e : x * 2 ^ level % 2 ^ 64 ≡ x * 2 ^ level = shl_whole x 2 level 64 (omega arith) (omega arith) in omega (arith, e)

-- with one level more
pub number-up : (f : ℕ → ℕ) (upper x level : ℕ) → upper ≡ number_by f level → x ≡ f level → f level < 3 → level < 30 → upper + x * 2 ^ level % 2 ^ 64
    ≡ number_by f (level + 1)
number-up f upper x level is here small few =
    let e : x * 2 ^ level % 2 ^ 64 ≡ 2 ^ level * x = level-up x level (omega arith) few in
    let g : 2 ^ level * x ≡ 2 ^ level * f level = ap (λ d. 2 ^ level * d) here in
    omega (arith, e, g, is, number-next f level) ∙ ap (number_by f) (sym (add-one level))

pub number-fits : (f : ℕ → ℕ) (n : ℕ) → ((i : ℕ) → f i < 3) → n ≤ 30 → number_by f n + 2 ≤ 2 ^ 31
number-fits f n small few = let p : 2 ^ n ≤ 2 ^ 30 = pow_mono few in omega (arith, number-small f n (λ i l. small i), p)

-- the sets of four cycles, with what they carry
pub joined : (ones twos a b c d k ones1 twos1 carry upper upper0 : ℕ) → ones1 ≡ (with_four ones twos a b c d).ones → twos1
    ≡ (with_four ones twos a b c d).twos → carry ≡ (with_four ones twos a b c d).carry
    → upper ≡ upper0 + one_if (has_bit carry k)
    → one_if (has_bit ones1 k) + 2 * one_if (has_bit twos1 k) + 4 * upper
    ≡ one_if (has_bit ones k) + 2 * one_if (has_bit twos k) + 4 * upper0 + one_if (has_bit a k) + one_if (has_bit b k) + one_if (has_bit c k) + one_if
    (has_bit d k)
joined ones twos a b c d k ones1 twos1 carry upper upper0 e1 e2 e4 is =
    let f1 : one_if (has_bit ones1 k) ≡ one_if (has_bit (with_four ones twos a b c d).ones k) = ap (λ w. one_if (has_bit w k)) e1 in
    let f2 : one_if (has_bit twos1 k) ≡ one_if (has_bit (with_four ones twos a b c d).twos k) = ap (λ w. one_if (has_bit w k)) e2 in
    let f4 : one_if (has_bit carry k) ≡ one_if (has_bit (with_four ones twos a b c d).carry k) = ap (λ w. one_if (has_bit w k)) e4 in
    omega (arith, f1, f2, f4, is, added-four ones twos a b c d k)

-- nothing is counted where no word has a bit
pub counted-none : (bits pending : List (List ℕ)) (ones twos : List ℕ) (j k : ℕ) → word j ones ≡ 0 → word j twos ≡ 0
    → ((i : ℕ) → i < 30 → word j (slice_index_or bits i []) ≡ 0) → ((i : ℕ) → i < 30 → word j (slice_index_or pending i []) ≡ 0)
    → one_if (has_bit (word j ones) k) + 2 * one_if (has_bit (word j twos) k) + 4 * number_by (at_level bits pending 0 j k) 30 ≡ 0
counted-none bits pending ones twos j k e f b p =
    let first : one_if (has_bit (word j ones) k) ≡ 0 = ap (λ w. one_if (has_bit w k)) e ∙ ap one_if (has_bit-zero k) in
    let second : one_if (has_bit (word j twos) k) ≡ 0 = ap (λ w. one_if (has_bit w k)) f ∙ ap one_if (has_bit-zero k) in
    let digits : number_by (at_level bits pending 0 j k) 30 ≡ number_by (λ i. 0) 30 = number-same (at_level bits pending 0 j k) (λ i. 0) 30 digit in
    omega (arith, first, second, digits, zeros 30)
  where
    zeros : (n : ℕ) → number_by (λ i. 0) n ≡ 0
    zeros zero = sym (number-none (λ i. 0))
    zeros (suc n) = number-next (λ i. 0) n ∙ (let z = zeros n in omega (arith, z))

    digit : (i : ℕ) → i < 30 → at_level bits pending 0 j k i ≡ 0
    digit i few =
        ap (λ w. one_if (has_bit w k) + one_if (has_bit 0 i && has_bit (word j (slice_index_or pending i [])) k)) (b i few)
        ∙ ap (λ w. one_if (has_bit 0 k) + one_if (has_bit 0 i && has_bit w k)) (p i few)
        ∙ ap (λ x. one_if (has_bit 0 k) + one_if (x && has_bit 0 k)) (has_bit-zero i)
        ∙ ap (λ x. one_if x + 0) (has_bit-zero k)
