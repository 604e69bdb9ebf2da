-- A file is refused with its first fault.
use Rattle.std.proofs.Common.{◌≡◌, inl, inr, ℕ, ◌+◌, Bool, true, false, List, [], ◌∷◌, ◌++◌, length, Result, Ok, Err, refl, sym, ap, ◌∙◌, arith, subst, add-zero}
use Rattle.std.proofs.lemmas.Bool.{false≢true}
use Rattle.std.specs.Cmp.Lexicographic.{pointwise}
use Rattle.std.specs.List.{AllZip}
use Rattle.std.specs.Str.{bytes_eq}
use Rattle.noc_bytes.specs.declared.input_fault.InputFault.{InputFault}
use Rattle.noc_bytes.specs.declared.input_fault.InputFault.TheVariants.{BadHeader}
use Rattle.noc_files.specs.Rows.{Fields}
use Rattle.noc_files.specs.Sheet.{IsSheetFault, each_from, sheet}
use Rattle.noc_files.proofs.SheetLemmas.{names_same, same_names}

-- the rows before a fault, the row that has it, and the rest
record Broken {P : Type 0} (Writes : Fields → P → Type 0) (IsRowFault : ℕ → Fields → InputFault → Type 0) (row : ℕ) (rows : List Fields) (fault : InputFault) : Type 0 where
  good : List Fields
  bad : Fields
  others : List Fields
  values : List P
  parts : rows ≡ good ++ bad ∷ others
  writes : AllZip Writes good values
  fault_is : IsRowFault (row + length good) bad fault

module _ {P : Type 0} (read : ℕ → Fields → Result P InputFault) (Writes : Fields → P → Type 0) (IsRowFault : ℕ → Fields → InputFault → Type 0)
    (to : (row : ℕ) (fields : Fields) (p : P) → read row fields ≡ Ok p → Writes fields p) (back : (row : ℕ) (fields : Fields) (p : P) → Writes fields p → read row fields ≡ Ok p)
    (fault_to : (row : ℕ) (fields : Fields) (fault : InputFault) → read row fields ≡ Err fault → IsRowFault row fields fault)
    (fault_back : (row : ℕ) (fields : Fields) (fault : InputFault) → IsRowFault row fields fault → read row fields ≡ Err fault) where
  rows_break : (row : ℕ) (rows : List Fields) (fault : InputFault) → each_from read row rows ≡ Err fault → Broken Writes IsRowFault row rows fault
  unfolding each_from
  rows_break row [] fault e = absurd (cc)
  rows_break row (fields ∷ rows) fault e = by (read row fields) refl (each_from read (row + 1) rows) refl (rows_break (row + 1) rows fault)
    where
      by : (r : Result P InputFault) → read row fields ≡ r → (rest : Result (List P) InputFault) → each_from read (row + 1) rows ≡ rest
          → (each_from read (row + 1) rows ≡ Err fault → Broken Writes IsRowFault (row + 1) rows fault) → Broken Writes IsRowFault row (fields ∷ rows) fault
      by (Err first) is rest are more =
          let same : Err first ≡ Err fault = rw is at e in
          let one : first ≡ fault = cc in
          record { good = []; bad = fields; others = rows; values = []; parts = refl; writes = tt; fault_is = rw (add-zero row) (fault_to row fields fault (is ∙ ap (λ (f : InputFault). Err f) one)) }
      by (Ok p) is (Ok ps) are more = let same : Ok (p ∷ ps) ≡ Err fault = rw (is, are) at e in absurd (cc)
      by (Ok p) is (Err later) are more =
          let same : Err later ≡ Err fault = rw (is, are) at e in
          let rest = more (are ∙ same) in
          record {
            good = fields ∷ rest.good;
            bad = rest.bad;
            others = rest.others;
            values = p ∷ rest.values;
            parts = ap (λ (t : List Fields). fields ∷ t) {y = rest.good ++ rest.bad ∷ rest.others} rest.parts;
            writes = (to row fields p is, rest.writes);
            fault_is = subst (λ n. IsRowFault n rest.bad fault) (omega arith) rest.fault_is;
          }

  broken_rows : (row : ℕ) (good : List Fields) (bad : Fields) (others : List Fields) (values : List P) (fault : InputFault) → AllZip Writes good values → IsRowFault (row + length good) bad fault → each_from read row (good ++ bad ∷ others) ≡ Err fault
  unfolding each_from
  broken_rows row [] bad others [] fault writes h = rw (fault_back row bad fault (subst (λ n. IsRowFault n bad fault) (add-zero row) h))
  broken_rows row [] bad others (p ∷ values) fault writes h = absurd writes
  broken_rows row (fields ∷ good) bad others [] fault writes h = absurd writes
  broken_rows row (fields ∷ good) bad others (p ∷ values) fault writes h =
      rw (back row fields p writes.0, broken_rows (row + 1) good bad others values fault writes.1 (subst (λ n. IsRowFault n bad fault) (omega arith) h))

  pub sheet_breaks : (header : Fields) (rows : List Fields) (fault : InputFault) → sheet read header rows ≡ Err fault → IsSheetFault Writes IsRowFault header rows fault
  unfolding sheet
  sheet_breaks header [] fault e = inl (record { lacks = λ below same. absurd (cc); fault_is = cc })
  sheet_breaks header (names ∷ rows) fault e = by (pointwise bytes_eq names header) refl
    where
      by : (b : Bool) → pointwise bytes_eq names header ≡ b → IsSheetFault Writes IsRowFault header (names ∷ rows) fault
      by true same =
          let rest = rows_break 0 rows fault (rw same at e) in
          inr (record {
            good = rest.good;
            bad = rest.bad;
            others = rest.others;
            values = rest.values;
            under_header = ap (λ (n : Fields). n ∷ rows) (names_same names header same) ∙ ap (λ (t : List Fields). header ∷ t) rest.parts;
            writes = rest.writes;
            fault_is = subst (λ n. IsRowFault n rest.bad fault) (omega arith) rest.fault_is;
          })
      by false other =
          let refused : sheet read header (names ∷ rows) ≡ Err BadHeader = rw other in
          inl (record {
            lacks = λ below same. let one : names ≡ header = cc in let whole : pointwise bytes_eq names header ≡ true = rw one (same_names header) in false≢true (sym other ∙ whole);
            fault_is = cc (refused, e);
          })

  pub breaks_sheet : (header : Fields) (rows : List Fields) (fault : InputFault) → IsSheetFault Writes IsRowFault header rows fault → sheet read header rows ≡ Err fault
  unfolding sheet
  breaks_sheet header rows fault (inr h) = rw (h.under_header, same_names header) (broken_rows 0 h.good h.bad h.others h.values fault h.writes (subst (λ n. IsRowFault n h.bad fault) (omega arith) h.fault_is))
  breaks_sheet header [] fault (inl h) = ap (λ (f : InputFault). Err f) (sym h.fault_is)
  breaks_sheet header (names ∷ rows) fault (inl h) = by (pointwise bytes_eq names header) refl
    where
      by : (b : Bool) → pointwise bytes_eq names header ≡ b → sheet read header (names ∷ rows) ≡ Err fault
      by true same = absurd (h.lacks rows (ap (λ (n : Fields). n ∷ rows) (names_same names header same)))
      by false other = rw other (ap (λ (f : InputFault). Err f) (sym h.fault_is))
