-- A number written in decimal is a numeral of plain bytes.
use Rattle.std.proofs.Common.{◌≡◌, ℕ, ◌^◌, ◌<◌, true, List, [], ◌∷◌, length, decimal, arith}
use Rattle.std.proofs.lemmas.Fmt.{decimal_is_IsNumeral, digits_decimal, digits_value-decimal, length-decimal-le}
use Rattle.std.proofs.lemmas.Str.Parse.{IsNumeralModel, numerals_by_value, tells_all_ascii_digits}
use Rattle.std.specs.Str.{all_ascii_digits}
use Rattle.std.specs.Str.Parse.{digits_value}
use Rattle.noc_topo.specs.Lists.{Each}
use Rattle.noc_files.specs.Plain.{IsPlain}
use Rattle.noc_files.specs.Rows.{IsNumeral}
use Rattle.noc_files.proofs.SheetLemmas.{digits_are}

digits_model : IsNumeralModel (λ ds. all_ascii_digits ds ≡ true) (digits_value 10)
digits_model = numerals_by_value (λ ds. all_ascii_digits ds ≡ true) tells_all_ascii_digits

plain_digits : (field : List ℕ) → all_ascii_digits field ≡ true → Each IsPlain field
plain_digits [] e = tt
plain_digits (c ∷ cs) e =
    let both = tells_all_ascii_digits.parts c cs e in
    (record { ascii = omega arith; no_comma = λ same. omega arith; no_quote = λ same. omega arith; no_line_feed = λ same. omega arith; no_return = λ same. omega arith }, plain_digits cs both.1)

pub plain_decimal : (n : ℕ) → n < 2 ^ 64 → Each IsPlain (decimal n)
plain_decimal n h = plain_digits (decimal n) (digits_decimal digits_model n h)

pub some_decimal : (n : ℕ) → n < 2 ^ 64 → 0 < length (decimal n)
some_decimal n h = (decimal_is_IsNumeral n h).0.0

pub decimal_numeral : (n : ℕ) → n < 2 ^ 32 → IsNumeral (decimal n) n
decimal_numeral n h = record {
  digits = digits_are (decimal n) (digits_decimal digits_model n (omega arith));
  some = some_decimal n (omega arith);
  few = length-decimal-le 10 n (omega arith) (omega arith) (omega arith);
  value = digits_value-decimal digits_model n (omega arith);
  fits = h;
}
