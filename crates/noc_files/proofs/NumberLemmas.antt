-- Reading the digits of a field from left to right.
use Rattle.std.proofs.Common.{◌≡◌, ℕ, ◌+◌, ◌-◌, ◌*◌, ◌^◌, ◌<◌, ◌≤◌, true, false, cond, List, length, get_or, drop, Some, None, sym, ap, ◌∙◌, arith, add-one, ltb, le-leb, ◌==◌, inl, inr, Result, Ok, Err}
use Rattle.std.specs.Result.{OkIff, result_ok}
use Rattle.std.proofs.lemmas.Bool.{cases_lt, lt-ltb, le-ltb}
use Rattle.std.proofs.lemmas.Bool.Decides.{nat_tests}
use Rattle.std.proofs.lemmas.List.{drop_more}
use Rattle.std.proofs.Math.Nat.{pow-le-pow_right, pow-suc}
use Rattle.std.specs.Char.{digit_value, is_ascii_digit}
use Rattle.std.specs.Str.{all_ascii_digits}
use Rattle.std.specs.Str.Parse.{digits_value, digits_value_after}
use Rattle.noc_files.specs.Rows.{number_of}

pub digits_stop : (xs : List ℕ) (i : ℕ) → i < length xs → is_ascii_digit (get_or xs i 0) ≡ false → all_ascii_digits (drop i xs) ≡ all_ascii_digits xs → all_ascii_digits xs ≡ false
digits_stop xs i h e same = sym same ∙ rw (drop_more xs i 0 h, e)

pub digits_go : (xs : List ℕ) (i : ℕ) → i < length xs → is_ascii_digit (get_or xs i 0) ≡ true → all_ascii_digits (drop i xs) ≡ all_ascii_digits xs → all_ascii_digits (drop (i + 1) xs) ≡ all_ascii_digits xs
digits_go xs i h e same =
    let one : all_ascii_digits (drop i xs) ≡ all_ascii_digits (drop (i + 1) xs) = rw (drop_more xs i 0 h, e) in
    sym one ∙ same

pub digit_is : (c : ℕ) → is_ascii_digit c ≡ true → (digit_value c ≡ c - 48) × (48 ≤ c) × (c ≤ 57)
digit_is c e = (grind (arith, nat_tests), grind (arith, nat_tests), grind (arith, nat_tests))

pub value_go : (xs : List ℕ) (i v d : ℕ) → i < length xs → digit_value (get_or xs i 0) ≡ d → digits_value_after 10 v (drop i xs) ≡ digits_value 10 xs → digits_value_after 10 (v * 10 + d) (drop (i + 1) xs) ≡ digits_value 10 xs
value_go xs i v d h e same =
    let one : digits_value_after 10 v (drop i xs) ≡ digits_value_after 10 (v * 10 + digit_value (get_or xs i 0)) (drop (i + 1) xs) = rw (drop_more xs i 0 h) in
    let two : digits_value_after 10 (v * 10 + digit_value (get_or xs i 0)) (drop (i + 1) xs) ≡ digits_value_after 10 (v * 10 + d) (drop (i + 1) xs) = ap (λ n. digits_value_after 10 (v * 10 + n) (drop (i + 1) xs)) e in
    sym two ∙ sym one ∙ same

pub small_go : (v i d : ℕ) → d < 10 → v < 10 ^ i → v * 10 + d < 10 ^ (i + 1)
small_go v i d h small = rw add-one (rw (pow-suc 10 i) (omega arith))

-- the number of a field that is all digits
pub number_is : (xs : List ℕ) (n : ℕ) → 0 < length xs → length xs ≤ 10 → all_ascii_digits xs ≡ true → n ≡ digits_value 10 xs → number_of xs ≡ cond (ltb n (2 ^ 32)) (Some n) None
number_is xs n some few digits value = rw (digits, le-leb 1 (length xs) (omega arith), le-leb (length xs) 10 few, ← value)

pub room : (v i : ℕ) → i < 10 → v < 10 ^ i → v < 1_000_000_000
room v i h small = omega (arith, pow-le-pow_right {n = 10} (omega arith) {i = i} {j = 9} (omega arith))

pub some_from_test : (n : ℕ) → (n == 0) ≡ false → 0 < n
some_from_test n e = grind (arith, nat_tests)

-- a cast that fits decides the last test
pub number_found : {E : Type 0} (xs : List ℕ) (n : ℕ) (r : Result ℕ E) → 0 < length xs → length xs ≤ 10 → all_ascii_digits xs ≡ true → n ≡ digits_value 10 xs → OkIff r (n < 2 ^ 32) n → result_ok r ≡ number_of xs
number_found xs n (Ok x) some few digits value h = rw (number_is xs n some few digits value, lt-ltb n (2 ^ 32) h.0, h.1)
number_found xs n (Err e) some few digits value h =
    elim (cases_lt n (2 ^ 32)) [
      | inl lt ↦ absurd (h lt)
      | inr le ↦ rw (number_is xs n some few digits value, le-ltb n (2 ^ 32) le)
    ]
