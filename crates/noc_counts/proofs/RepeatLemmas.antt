-- A set is added to a count so many times, bit by bit.
use Rattle.std.proofs.Common.{◌≡◌, ◌≢◌, ℕ, zero, suc, ◌+◌, ◌*◌, ◌/◌, ◌%◌, ◌^◌, ◌<◌, Bool, true, false, List, [], replicate, refl, ap, sym, ◌∙◌, inl, inr, arith, add-one, pow-suc}
use Rattle.std.specs.Prelude.{◌⊎◌, ◌&&◌, slice_index_or, if◌then◌else◌}
use Rattle.std.proofs.lemmas.Bool.{cases_eq, cases_lt}
use Rattle.std.proofs.lemmas.List.{get_or-replicate, get_or_past, length-replicate}
use Rattle.std.proofs.lemmas.Nat.{shr-shr}
use Rattle.noc_packet.specs.Set.{has_bit}
use Rattle.noc_packet.proofs.SetLemmas.{has_bit-one, has_bit-none, has_bit-zero}
use Rattle.noc_topo.specs.Lists.{one_if}
use Rattle.noc_columns.specs.Words.{word}
use Rattle.noc_sets.proofs.MemberLemmas.{and-false, and-true}
use Rattle.noc_counts.specs.Tallies.{at_level, bit_level, carry_over, number_by, sum_of}
use Rattle.noc_counts.proofs.TallyLemmas.{added-three, number-none, number-next, number-same}

-- the sum of two numbers, place by place
pub number-sum : (f g : ℕ → ℕ) (n : ℕ) → number_by (λ i. f i + g i) n ≡ number_by f n + number_by g n
number-sum f g zero = let a = number-none (λ i. f i + g i) in let b = number-none f in let d = number-none g in omega (arith, a, b, d)
number-sum f g (suc n) =
    let rest = number-sum f g n in
    let a = number-next (λ i. f i + g i) n in
    let b = number-next f n in
    let d = number-next g n in
    omega (arith, rest, a, b, d, split (2 ^ n) (f n) (g n))
  where
    split : (p x y : ℕ) → p * (x + y) ≡ p * x + p * y
    split p x y = omega arith

zeros : (n : ℕ) → number_by (λ i. 0) n ≡ 0
zeros zero = sym (number-none (λ i. 0))
zeros (suc n) = number-next (λ i. 0) n ∙ (let z = zeros n in omega (arith, z))

-- the bit of a number at a place
pub bit-is : (m k : ℕ) → one_if (has_bit m k) ≡ m / 2 ^ k % 2
bit-is m k = at (cases_eq (m / 2 ^ k % 2) 1)
  where
    at : (m / 2 ^ k % 2 ≡ 1) ⊎ (m / 2 ^ k % 2 ≢ 1) → one_if (has_bit m k) ≡ m / 2 ^ k % 2
    at (inl one) = ap one_if (has_bit-one m k one) ∙ sym one
    at (inr other) = let none : m / 2 ^ k % 2 ≡ 0 = omega arith in ap one_if (has_bit-none m k none) ∙ sym none

-- the lowest bits of a number, and the rest of it
number-bits : (m n : ℕ) → number_by (λ i. one_if (has_bit m i)) n + 2 ^ n * (m / 2 ^ n) ≡ m
number-bits m zero = let z = number-none (λ i. one_if (has_bit m i)) in omega (arith, z)
number-bits m (suc n) =
    let rest = number-bits m n in
    let next = number-next (λ i. one_if (has_bit m i)) n in
    let half : m / 2 ^ n / 2 ^ 1 ≡ m / 2 ^ suc n = shr-shr m n 1 ∙ ap (λ k. m / 2 ^ k) (add-one n) in
    step (2 ^ n) (2 ^ suc n) (m / 2 ^ n) (m / 2 ^ suc n) (one_if (has_bit m n)) _ _ m (pow-suc 2 n) half (bit-is m n) next rest
  where
    step : (p q a b d low low1 m : ℕ) → q ≡ p * 2 → a / 2 ^ 1 ≡ b → d ≡ a % 2 → low1 ≡ low + p * d → low + p * a ≡ m → low1 + q * b ≡ m
    step p q a b d low low1 m e h o l is =
        let f : q * b ≡ p * 2 * b = ap (λ z. z * b) e in
        let g : a ≡ 2 * b + d = omega arith in
        let w : p * a ≡ p * (2 * b + d) = ap (λ z. p * z) g in
        omega (arith, f, w)

pub number-whole : (m : ℕ) → m < 2 ^ 30 → number_by (λ i. one_if (has_bit m i)) 30 ≡ m
number-whole m few = let w = number-bits m 30 in let z : m / 2 ^ 30 ≡ 0 = omega arith in omega (arith, w, z)

-- where the same set is pending at each level
pub pending-alike : (bits : List (List ℕ)) (set : List ℕ) (m j k : ℕ) → m < 2 ^ 30
    → number_by (at_level bits (replicate 30 set) m j k) 30 ≡ number_by (bit_level bits j k) 30 + m * one_if (has_bit (word j set) k)
pending-alike bits set m j k few =
    number-same _ _ 30 (λ i l. ap (λ s. bit_level bits j k i + one_if (has_bit m i && has_bit (word j s) k)) (get_or-replicate 30 i set [] l))
    ∙ number-sum (bit_level bits j k) (λ i. one_if (has_bit m i && has_bit (word j set) k)) 30
    ∙ ap (λ n. number_by (bit_level bits j k) 30 + n) (at (has_bit (word j set) k))
  where
    at : (b : Bool) → number_by (λ i. one_if (has_bit m i && b)) 30 ≡ m * one_if b
    at true = number-same _ _ 30 (λ i l. ap one_if (and-true (has_bit m i))) ∙ number-whole m few ∙ (let e : m ≡ m * 1 = omega arith in e)
    at false = number-same _ _ 30 (λ i l. ap one_if (and-false (has_bit m i))) ∙ zeros 30 ∙ (let e : 0 ≡ m * 0 = omega arith in e)

-- ---- the whole count
-- a set or none
chosen-members : (b : Bool) (set none : List ℕ) (j k : ℕ) → word j none ≡ 0 → has_bit (word j (if b then set else none)) k ≡ (b && has_bit (word j set) k)
chosen-members true set none j k e = refl
chosen-members false set none j k e = ap (λ w. has_bit w k) e ∙ has_bit-zero k

-- no word has a bit
pub zero-word : (j : ℕ) → word j (replicate 32 0) ≡ 0
zero-word j = elim (cases_lt j 32) [ inl l ↦ get_or-replicate 32 j 0 0 l | inr u ↦ get_or_past (replicate 32 0) j 0 (omega (arith, length-replicate {A = ℕ} 32 0, u)) ]

-- where one level has what is chosen
pub chosen-level : (m level j k : ℕ) (set none more : List ℕ) → level < 30 → ((i : ℕ) → word i none ≡ 0) → more ≡ (if has_bit m level then set else none)
    → one_if (has_bit m level && has_bit (word j (slice_index_or (replicate 30 set) level [])) k) ≡ one_if (has_bit (word j more) k)
chosen-level m level j k set none more few z is =
    ap (λ s. one_if (has_bit m level && has_bit (word j s) k)) (get_or-replicate 30 level set [] few)
    ∙ ap one_if (sym (chosen-members (has_bit m level) set none j k (z j)))
    ∙ ap (λ s. one_if (has_bit (word j s) k)) (sym is)

added-up : (s a b : Bool) (n m o o1 t t1 c d e low low1 rest : ℕ) → n ≡ one_if a + 2 * one_if b + 4 * m
    → o1 + 2 * c ≡ o + one_if (a && s) + 0 → t1 + 2 * d ≡ t + one_if (b && s) + c → low1 + 2 ^ 30 * e ≡ low + m * one_if s + d
    → o + 2 * t + 4 * (low + rest) + n < 2 ^ 32 → o1 + 2 * t1 + 4 * (low1 + rest) ≡ o + 2 * t + 4 * (low + rest) + n * one_if s
added-up true true true n m o o1 t t1 c d e low low1 rest is first second third few = omega arith
added-up true true false n m o o1 t t1 c d e low low1 rest is first second third few = omega arith
added-up true false true n m o o1 t t1 c d e low low1 rest is first second third few = omega arith
added-up true false false n m o o1 t t1 c d e low low1 rest is first second third few = omega arith
added-up false true true n m o o1 t t1 c d e low low1 rest is first second third few = omega arith
added-up false true false n m o o1 t t1 c d e low low1 rest is first second third few = omega arith
added-up false false true n m o o1 t t1 c d e low low1 rest is first second third few = omega arith
added-up false false false n m o o1 t t1 c d e low low1 rest is first second third few = omega arith

module _ (set none : List ℕ) (n times j k : ℕ) where
  -- where this word of the two lowest bits and the carry of each become these
  pub repeated : (bits bits1 pending : List (List ℕ)) (ones twos ones1 twos1 over0 over1 : List ℕ) (e : ℕ) → word j none ≡ 0
      → word j ones1 ≡ sum_of (word j ones) (word j (if has_bit n 0 then set else none)) (word j none)
      → word j over0 ≡ carry_over (word j ones) (word j (if has_bit n 0 then set else none)) (word j none)
      → word j twos1 ≡ sum_of (word j twos) (word j (if has_bit n 1 then set else none)) (word j over0)
      → word j over1 ≡ carry_over (word j twos) (word j (if has_bit n 1 then set else none)) (word j over0)
      → number_by (bit_level bits1 j k) 30 + 2 ^ 30 * e ≡ number_by (bit_level bits j k) 30 + n / 4 * one_if (has_bit (word j set) k) + one_if (has_bit (word j over1) k)
      → one_if (has_bit (word j ones) k) + 2 * one_if (has_bit (word j twos) k) + 4 * number_by (at_level bits pending times j k) 30 + n < 2 ^ 32
      → one_if (has_bit (word j ones1) k) + 2 * one_if (has_bit (word j twos1) k) + 4 * number_by (at_level bits1 pending times j k) 30
      ≡ one_if (has_bit (word j ones) k) + 2 * one_if (has_bit (word j twos) k) + 4 * number_by (at_level bits pending times j k) 30
      + n * one_if (has_bit (word j set) k)
  repeated bits bits1 pending ones twos ones1 twos1 over0 over1 e z s0 c0 s1 c1 upper few =
      let waits : ℕ → ℕ = λ i. one_if (has_bit times i && has_bit (word j (slice_index_or pending i [])) k) in
      let old : number_by (at_level bits pending times j k) 30 ≡ number_by (bit_level bits j k) 30 + number_by waits 30 = number-sum (bit_level bits j k) waits 30 in
      let new : number_by (at_level bits1 pending times j k) 30 ≡ number_by (bit_level bits1 j k) 30 + number_by waits 30 = number-sum (bit_level bits1 j k) waits 30 in
      let parts : n ≡ one_if (has_bit n 0) + 2 * one_if (has_bit n 1) + 4 * (n / 4) = omega (arith, bit-is n 0, bit-is n 1) in
      let member : (i : ℕ) → one_if (has_bit (word j (if has_bit n i then set else none)) k) ≡ one_if (has_bit n i && has_bit (word j set) k) =
      λ i. ap one_if (chosen-members (has_bit n i) set none j k z) in
      let nothing : one_if (has_bit (word j none) k) ≡ 0 = ap (λ w. one_if (has_bit w k)) z ∙ ap one_if (has_bit-zero k) in
      let f0 : one_if (has_bit (word j ones1) k) ≡ one_if (has_bit (sum_of (word j ones) (word j (if has_bit n 0 then set else none)) (word j none)) k) =
      ap (λ w. one_if (has_bit w k)) s0 in
      let g0 : one_if (has_bit (word j over0) k) ≡ one_if (has_bit (carry_over (word j ones) (word j (if has_bit n 0 then set else none)) (word j none)) k) =
      ap (λ w. one_if (has_bit w k)) c0 in
      let f1 : one_if (has_bit (word j twos1) k) ≡ one_if (has_bit (sum_of (word j twos) (word j (if has_bit n 1 then set else none)) (word j over0)) k) =
      ap (λ w. one_if (has_bit w k)) s1 in
      let g1 : one_if (has_bit (word j over1) k) ≡ one_if (has_bit (carry_over (word j twos) (word j (if has_bit n 1 then set else none)) (word j over0)) k) =
      ap (λ w. one_if (has_bit w k)) c1 in
      let a0 = added-three (word j ones) (word j (if has_bit n 0 then set else none)) (word j none) k in
      let a1 = added-three (word j twos) (word j (if has_bit n 1 then set else none)) (word j over0) k in
      let first : one_if (has_bit (word j ones1) k) + 2 * one_if (has_bit (word j over0) k) ≡ one_if (has_bit (word j ones) k) + one_if (has_bit n 0 && has_bit (word j set) k) + 0 =
      omega (arith, f0, g0, a0, member 0, nothing) in
      let second : one_if (has_bit (word j twos1) k) + 2 * one_if (has_bit (word j over1) k)
      ≡ one_if (has_bit (word j twos) k) + one_if (has_bit n 1 && has_bit (word j set) k) + one_if (has_bit (word j over0) k) =
      omega (arith, f1, g1, a1, member 1) in
      let sum = added-up (has_bit (word j set) k) (has_bit n 0) (has_bit n 1) n (n / 4) _ _ _ _ _ _ e _ _ (number_by waits 30) parts first second upper (omega (arith, old, few)) in
      omega (arith, old, new, sum)
