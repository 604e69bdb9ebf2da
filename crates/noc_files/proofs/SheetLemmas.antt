-- A file is read just where it is the header and a row for each value.
use Rattle.std.proofs.Common.{◌≡◌, ℕ, suc, ◌+◌, ◌^◌, ◌&&◌, Bool, true, false, List, [], ◌∷◌, length, All, Some, Result, Ok, Err, refl, sym, ap, ◌∙◌, arith, le-leb}
use Rattle.std.proofs.lemmas.Bool.{eq-eqb, leb-true, lt-ltb}
use Rattle.std.proofs.lemmas.List.Elements.{All-cons, All-nil}
use Rattle.std.proofs.lemmas.Option.{cond_some}
use Rattle.std.proofs.lemmas.Str.Parse.{tells_all_ascii_digits}
use Rattle.std.specs.Prelude.{nat_le, nat_lt}
use Rattle.std.specs.Char.{IsAsciiDigit}
use Rattle.std.specs.Cmp.Lexicographic.{pointwise, same_text}
use Rattle.std.specs.List.{AllZip}
use Rattle.std.specs.Str.{all_ascii_digits, bytes_eq}
use Rattle.std.specs.Str.Parse.{digits_value}
use Rattle.noc_bytes.specs.declared.input_fault.InputFault.{InputFault}
use Rattle.noc_bytes.specs.declared.input_fault.InputFault.TheVariants.{BadHeader}
use Rattle.noc_files.specs.Gives.{◌>>=◌}
use Rattle.noc_files.specs.Rows.{Fields, IsNumeral, is_number, number_of}
use Rattle.noc_files.specs.Sheet.{IsSheet, each_from, sheet}

-- ---- digits

pub digits_are : (field : List ℕ) → all_ascii_digits field ≡ true → All IsAsciiDigit field
digits_are [] e = All-nil IsAsciiDigit
digits_are (c ∷ cs) e = let both = tells_all_ascii_digits.parts c cs e in All-cons IsAsciiDigit c cs both.0 (digits_are cs both.1)

pub are_digits : (field : List ℕ) → All IsAsciiDigit field → all_ascii_digits field ≡ true
are_digits [] h = refl
are_digits (c ∷ cs) h = tells_all_ascii_digits.more c cs (h 0 0 (omega arith)) (are_digits cs (λ k d below. h (suc k) d (omega arith)))

-- ---- numerals

pub both : (a b : Bool) → (a && b) ≡ true → (a ≡ true) × (b ≡ true)
both true b e = (refl, e)
both false b e = absurd (cc)

pub numeral_is : (field : List ℕ) (n : ℕ) → number_of field ≡ Some n → IsNumeral field n
numeral_is field n e =
    let found = cond_some (is_number field) (digits_value 10 field) n e in
    let fits = both (all_ascii_digits field && nat_le 1 (length field) && nat_le (length field) 10) (nat_lt (digits_value 10 field) (2 ^ 32)) found.0 in
    let few = both (all_ascii_digits field && nat_le 1 (length field)) (nat_le (length field) 10) fits.0 in
    let some = both (all_ascii_digits field) (nat_le 1 (length field)) few.0 in
    record {
      digits = digits_are field some.0;
      some = leb-true 1 (length field) some.1;
      few = leb-true (length field) 10 few.1;
      value = found.1;
      fits = rw (← found.1) (leb-true (suc (digits_value 10 field)) (2 ^ 32) fits.1);
    }

pub is_numeral : (field : List ℕ) (n : ℕ) → IsNumeral field n → number_of field ≡ Some n
is_numeral field n h = rw (are_digits field h.digits, le-leb 1 (length field) h.some, le-leb (length field) 10 h.few, h.value, lt-ltb n (2 ^ 32) h.fits)

-- ---- rows

pub bind_ok : {A B : Type 0} (r : Result A InputFault) (f : A → Result B InputFault) (y : B) → (r >>= f) ≡ Ok y → (x : A) × (r ≡ Ok x) × (f x ≡ Ok y)
bind_ok (Ok x) f y e = (x, refl, e)
bind_ok (Err fault) f y e = absurd (cc)

pub names_same : (names header : Fields) → pointwise bytes_eq names header ≡ true → names ≡ header
names_same [] [] e = refl
names_same [] (h ∷ header) e = absurd (cc)
names_same (n ∷ names) [] e = absurd (cc)
names_same (n ∷ names) (h ∷ header) e =
    let each = both (bytes_eq n h) (pointwise bytes_eq names header) e in
    ap (λ (t : List ℕ). t ∷ names) (same_text n h (sym each.0)) ∙ ap (λ (ts : Fields). h ∷ ts) (names_same names header each.1)

pub bytes_eq-refl : (text : List ℕ) → bytes_eq text text ≡ true
bytes_eq-refl [] = refl
bytes_eq-refl (c ∷ cs) = rw (eq-eqb c c refl, bytes_eq-refl cs)

pub same_names : (header : Fields) → pointwise bytes_eq header header ≡ true
same_names [] = refl
same_names (h ∷ header) = rw (bytes_eq-refl h, same_names header)

module _ {P : Type 0} (read : ℕ → Fields → Result P InputFault) (Writes : Fields → P → Type 0)
    (to : (row : ℕ) (fields : Fields) (p : P) → read row fields ≡ Ok p → Writes fields p) (back : (row : ℕ) (fields : Fields) (p : P) → Writes fields p → read row fields ≡ Ok p) where
  rows_are : (row : ℕ) (rows : List Fields) (ps : List P) → each_from read row rows ≡ Ok ps → AllZip Writes rows ps
  unfolding each_from
  rows_are row [] [] e = tt
  rows_are row [] (p ∷ ps) e = absurd (cc)
  rows_are row (fields ∷ rows) ps e =
      let first = bind_ok (read row fields) (λ p. each_from read (row + 1) rows >>= λ others. Ok (p ∷ others)) ps e in
      let rest = bind_ok (each_from read (row + 1) rows) (λ others. Ok (first.0 ∷ others)) ps first.2 in
      let same : first.0 ∷ rest.0 ≡ ps = cc in
      rw (← same) (to row fields first.0 first.1, rows_are (row + 1) rows rest.0 rest.1)

  are_rows : (row : ℕ) (rows : List Fields) (ps : List P) → AllZip Writes rows ps → each_from read row rows ≡ Ok ps
  unfolding each_from
  are_rows row [] [] h = refl
  are_rows row [] (p ∷ ps) h = absurd h
  are_rows row (fields ∷ rows) [] h = absurd h
  are_rows row (fields ∷ rows) (p ∷ ps) h = rw (back row fields p h.0, are_rows (row + 1) rows ps h.1)

  pub sheet_is : (header : Fields) (rows : List Fields) (ps : List P) → sheet read header rows ≡ Ok ps → IsSheet Writes header rows ps
  unfolding sheet
  sheet_is header [] ps e = absurd (cc)
  sheet_is header (names ∷ rows) ps e = by (pointwise bytes_eq names header) refl
    where
      by : (b : Bool) → pointwise bytes_eq names header ≡ b → IsSheet Writes header (names ∷ rows) ps
      by true same = record { below = rows; under_header = ap (λ (n : Fields). n ∷ rows) (names_same names header same); writes = rows_are 0 rows ps (rw same at e) }
      by false other = let no : sheet read header (names ∷ rows) ≡ Err BadHeader = rw other in absurd (cc (no, e))

  pub is_sheet : (header : Fields) (rows : List Fields) (ps : List P) → IsSheet Writes header rows ps → sheet read header rows ≡ Ok ps
  unfolding sheet
  is_sheet header rows ps h = rw (h.under_header, same_names header) (are_rows 0 h.below ps h.writes)
