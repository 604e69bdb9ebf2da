-- Plain rows are read back.
use Rattle.std.proofs.Common.{◌≡◌, ◌≢◌, ℕ, zero, suc, ◌+◌, ◌<◌, ◌≤◌, ◌==◌, Bool, true, false, List, [], ◌∷◌, ◌++◌, length, Some, refl, ap, ◌∙◌, arith, append_assoc, append-nil, length-append}
use Rattle.std.specs.Prelude.{◌&&◌, nat_lt, not}
use Rattle.std.proofs.lemmas.Bool.{leb-true}
use Rattle.std.proofs.lemmas.Bool.Decides.{nat_tests}
use Rattle.noc_files.proofs.SheetLemmas.{both}
use Rattle.csv.specs.Machine.{in_field, next_record, start_field, start_record}
use Rattle.csv.specs.Reading.{default_config, records_from, strip_bom}
use Rattle.csv.specs.declared.parser.Action.TheVariants as act
use Rattle.csv.specs.declared.parser.State.TheVariants as st
use Rattle.noc_topo.specs.Lists.{Each}
use Rattle.noc_files.specs.Plain.{IsPlain, IsPlainRow, after_commas, plain_text, row_line}
use Rattle.noc_files.specs.Rows.{Fields, text_rows}

-- ---- plain bytes

differ : (m n : ℕ) → m ≢ n → (m == n) ≡ false
differ m n h = grind (arith, nat_tests)

plain_in_field : (c : ℕ) → IsPlain c → in_field default_config c ≡ (st.InField, act.Copy)
plain_in_field c h = rw (differ c 44 h.no_comma, differ c 13 h.no_return, differ c 10 h.no_line_feed)

plain_start_field : (c : ℕ) → IsPlain c → start_field default_config c ≡ (st.InField, act.Copy)
plain_start_field c h = rw (differ c 34 h.no_quote) (plain_in_field c h)

plain_start_record : (c : ℕ) → IsPlain c → start_record default_config c ≡ (st.InField, act.Copy)
plain_start_record c h = rw (differ c 13 h.no_return, differ c 10 h.no_line_feed, differ c 34 h.no_quote, differ c 44 h.no_comma)

-- the bytes of a field join the field at hand
in_plain : (cs : List ℕ) (fields : Fields) (field rest : List ℕ) → Each IsPlain cs → next_record default_config st.InField fields field (cs ++ rest) ≡ next_record default_config st.InField fields (field ++ cs) rest
unfolding next_record
in_plain [] fields field rest h = rw (append-nil field)
in_plain (c ∷ cs) fields field rest h =
    rw (plain_in_field c h.0) (in_plain cs fields (field ++ c ∷ []) rest h.1 ∙ ap (λ (f : List ℕ). next_record default_config st.InField fields f rest) (append_assoc field (c ∷ []) cs))

-- a plain field from its start, before a comma and before the end of the line
before_comma : (cs : List ℕ) (fields : Fields) (rest : List ℕ) → Each IsPlain cs → next_record default_config st.StartField fields [] (cs ++ 44 ∷ rest) ≡ next_record default_config st.StartField (fields ++ cs ∷ []) [] rest
unfolding next_record
before_comma [] fields rest h = refl
before_comma (c ∷ cs) fields rest h = rw (plain_start_field c h.0) (in_plain cs fields (c ∷ []) (44 ∷ rest) h.1)

before_end : (cs : List ℕ) (fields : Fields) (rest : List ℕ) → Each IsPlain cs → next_record default_config st.StartField fields [] (cs ++ 10 ∷ rest) ≡ Some (fields ++ cs ∷ [], st.StartRecord, rest)
unfolding next_record
before_end [] fields rest h = refl
before_end (c ∷ cs) fields rest h = rw (plain_start_field c h.0) (in_plain cs fields (c ∷ []) (10 ∷ rest) h.1)

-- ---- rows

others_read : (others fields : Fields) (first rest : List ℕ) → Each IsPlain first → Each (Each IsPlain) others → next_record default_config st.StartField fields [] (first ++ (after_commas others ++ 10 ∷ rest)) ≡ Some (fields ++ first ∷ others, st.StartRecord, rest)
others_read [] fields first rest h more = before_end first fields rest h
others_read (field ∷ others) fields first rest h more =
    rw (append_assoc field (after_commas others) (10 ∷ rest))
    (before_comma first fields (field ++ (after_commas others ++ 10 ∷ rest)) h ∙ others_read others (fields ++ first ∷ []) field rest more.0 more.1
    ∙ ap (λ (fs : Fields). Some (fs, st.StartRecord, rest)) (append_assoc fields (first ∷ []) (field ∷ others)))

-- what follows the first field of a row
after_first : (others : Fields) (first rest : List ℕ) → Each (Each IsPlain) others → next_record default_config st.InField [] first (after_commas others ++ 10 ∷ rest) ≡ Some (first ∷ others, st.StartRecord, rest)
unfolding next_record
after_first [] first rest h = refl
after_first (field ∷ others) first rest h = rw (append_assoc field (after_commas others) (10 ∷ rest)) (others_read others (first ∷ []) field rest h.0 h.1)

row_read : (row : Fields) (rest : List ℕ) → IsPlainRow row → next_record default_config st.StartRecord [] [] (row_line row ++ rest) ≡ Some (row, st.StartRecord, rest)
unfolding next_record
row_read [] rest h = absurd h
row_read ([] ∷ others) rest h = absurd (omega (arith, h.0))
row_read ((c ∷ cs) ∷ others) rest h =
    let split : ((cs ++ after_commas others) ++ 10 ∷ []) ++ rest ≡ cs ++ (after_commas others ++ 10 ∷ rest) = append_assoc (cs ++ after_commas others) (10 ∷ []) rest ∙ append_assoc cs (after_commas others) (10 ∷ rest) in
    rw (plain_start_record c h.1.0) (rw split (in_plain cs [] (c ∷ []) (after_commas others ++ 10 ∷ rest) h.1.1 ∙ after_first others (c ∷ cs) rest h.2))

-- ---- texts

rows_read : (n : ℕ) (rows : List Fields) → length rows < n → Each IsPlainRow rows → records_from default_config n st.StartRecord (plain_text rows) ≡ rows
unfolding records_from next_record
rows_read zero rows less h = absurd (omega arith)
rows_read (suc n) [] less h = refl
rows_read (suc n) (row ∷ rows) less h = rw (row_read row (plain_text rows) h.0, rows_read n rows (omega arith) h.1)

line_length : (row : Fields) → 1 ≤ length (row_line row)
line_length [] = omega arith
line_length (first ∷ others) = omega (arith, length-append (first ++ after_commas others) (10 ∷ []))

text_length : (rows : List Fields) → length rows ≤ length (plain_text rows)
text_length [] = omega arith
text_length (row ∷ rows) = omega (arith, length-append (row_line row) (plain_text rows), line_length row, text_length rows)

-- an ASCII byte begins no byte order mark
no_mark : (c : ℕ) (rest : List ℕ) → c < 128 → strip_bom (c ∷ rest) ≡ c ∷ rest
unfolding strip_bom
no_mark c [] h = refl
no_mark c (b ∷ []) h = refl
no_mark c (b ∷ d ∷ rest) h = rw (differ c 0xEF (λ same. omega arith))

whole_text : (rows : List Fields) → Each IsPlainRow rows → strip_bom (plain_text rows) ≡ plain_text rows
unfolding strip_bom
whole_text [] h = refl
whole_text ([] ∷ rows) h = absurd h.0
whole_text (([] ∷ others) ∷ rows) h = absurd (omega (arith, h.0.0))
whole_text (((c ∷ cs) ∷ others) ∷ rows) h = no_mark c _ h.0.1.0.ascii

-- plain rows are read as they were written
pub plain_rows : (rows : List Fields) → Each IsPlainRow rows → text_rows (plain_text rows) ≡ rows
plain_rows rows h = rw (whole_text rows h) (rows_read (length (plain_text rows) + 1) rows (omega (arith, text_length rows)) h)

-- ---- the same by a test, for rows that are written out

abbrev plain_byte : ℕ → Bool
plain_byte c = nat_lt c 128 && not (c == 44) && not (c == 34) && not (c == 10) && not (c == 13)

abbrev plain_bytes : List ℕ → Bool
plain_bytes [] = true
plain_bytes (c ∷ cs) = plain_byte c && plain_bytes cs

abbrev plain_fields : Fields → Bool
plain_fields [] = true
plain_fields (field ∷ fields) = plain_bytes field && plain_fields fields

-- whether a row is plain
abbrev pub plain_row : Fields → Bool
plain_row [] = false
plain_row (first ∷ others) = nat_lt 0 (length first) && plain_bytes first && plain_fields others

pub byte_is_plain : (c : ℕ) → plain_byte c ≡ true → IsPlain c
byte_is_plain c e =
    let r = both (nat_lt c 128 && not (c == 44) && not (c == 34) && not (c == 10)) (not (c == 13)) e in
    let n = both (nat_lt c 128 && not (c == 44) && not (c == 34)) (not (c == 10)) r.0 in
    let q = both (nat_lt c 128 && not (c == 44)) (not (c == 34)) n.0 in
    let k = both (nat_lt c 128) (not (c == 44)) q.0 in
    record { ascii = leb-true (suc c) 128 k.0; no_comma = other c 44 k.1; no_quote = other c 34 q.1; no_line_feed = other c 10 n.1; no_return = other c 13 r.1 }
  where
    other : (m n : ℕ) → not (m == n) ≡ true → m ≢ n
    other m n e same = grind (arith, nat_tests)

pub bytes_are_plain : (field : List ℕ) → plain_bytes field ≡ true → Each IsPlain field
bytes_are_plain [] e = tt
bytes_are_plain (c ∷ cs) e = let each = both (plain_byte c) (plain_bytes cs) e in (byte_is_plain c each.0, bytes_are_plain cs each.1)

fields_are_plain : (fields : Fields) → plain_fields fields ≡ true → Each (Each IsPlain) fields
fields_are_plain [] e = tt
fields_are_plain (field ∷ fields) e = let each = both (plain_bytes field) (plain_fields fields) e in (bytes_are_plain field each.0, fields_are_plain fields each.1)

pub is_plain_row : (row : Fields) → plain_row row ≡ true → IsPlainRow row
is_plain_row [] e = absurd (cc)
is_plain_row (first ∷ others) e =
    let rest = both (nat_lt 0 (length first) && plain_bytes first) (plain_fields others) e in
    let start = both (nat_lt 0 (length first)) (plain_bytes first) rest.0 in
    (leb-true 1 (length first) start.0, bytes_are_plain first start.1, fields_are_plain others rest.1)
