-- Rows read one after the other, whatever a row says.
use Rattle.std.proofs.Common.{◌≡◌, ℕ, ◌+◌, true, false, List, [], ◌∷◌, ◌++◌, Result, Ok, Err, refl, sym, ap, ◌∙◌, append_assoc}
use Rattle.std.proofs.lemmas.List.{append-nil}
use Rattle.std.specs.Cmp.Lexicographic.{pointwise}
use Rattle.std.specs.Str.{bytes_eq}
use Rattle.noc_bytes.specs.declared.input_fault.InputFault.{InputFault}
use Rattle.noc_bytes.specs.declared.input_fault.InputFault.TheVariants.{BadHeader}
use Rattle.noc_files.specs.Gives.{◌>>=◌}
use Rattle.noc_files.specs.Rows.{Fields}
use Rattle.noc_files.specs.Sheet.{each_from, sheet}

-- what was read before, and what is still read
abbrev pub after : {P : Type 0} → List P → Result (List P) InputFault → Result (List P) InputFault
after before read = read >>= λ others. Ok (before ++ others)

regroup : {P : Type 0} (before : List P) (p : P) (read : Result (List P) InputFault) → after before (read >>= λ others. Ok (p ∷ others)) ≡ after (before ++ p ∷ []) read
regroup {P} before p (Ok others) = ap (λ (ps : List P). Ok ps) (sym (append_assoc before (p ∷ []) others))
regroup before p (Err e) = refl

whole : {P : Type 0} (read : Result (List P) InputFault) → after [] read ≡ read
whole (Ok ps) = refl
whole (Err f) = refl

module _ {P : Type 0} (read : ℕ → Fields → Result P InputFault) where
  pub goes_on : (before : List P) (row index : ℕ) (all rows : List Fields) (fields : Fields) (p : P) (total : Result (List P) InputFault) → all ≡ fields ∷ rows → Ok p ≡ read index fields → index ≡ row
      → after before (each_from read row all) ≡ total → after (before ++ p ∷ []) (each_from read (row + 1) rows) ≡ total
  unfolding each_from
  goes_on before row index all rows fields p total split took at so_far =
      let here : Ok p ≡ read row fields = took ∙ ap (λ n. read n fields) at in
      let one : after before (each_from read row all) ≡ after (before ++ p ∷ []) (each_from read (row + 1) rows) = rw (split, ← here) (regroup before p (each_from read (row + 1) rows)) in
      sym one ∙ so_far

  pub stops : (before : List P) (row index : ℕ) (all rows : List Fields) (fields : Fields) (e : InputFault) (total : Result (List P) InputFault) → all ≡ fields ∷ rows → Err e ≡ read index fields → index ≡ row
      → after before (each_from read row all) ≡ total → total ≡ Err e
  unfolding each_from
  stops before row index all rows fields e total split took at so_far =
      let here : Err e ≡ read row fields = took ∙ ap (λ n. read n fields) at in
      let one : after before (each_from read row all) ≡ Err e = rw (split, ← here) in
      sym so_far ∙ one

  pub ends : (before : List P) (row : ℕ) (all : List Fields) (total : Result (List P) InputFault) → all ≡ [] → after before (each_from read row all) ≡ total → total ≡ Ok before
  unfolding each_from
  ends before row all total none so_far =
      let one : after before (each_from read row all) ≡ Ok before = rw none (ap (λ (ps : List P). Ok ps) (append-nil before)) in
      sym so_far ∙ one

  pub no_header : (header : Fields) (rows : List Fields) → rows ≡ [] → sheet read header rows ≡ Err BadHeader
  unfolding sheet
  no_header header rows e = rw e

  pub wrong_header : (header : Fields) (rows more : List Fields) (names : Fields) → rows ≡ names ∷ more → pointwise bytes_eq names header ≡ false → sheet read header rows ≡ Err BadHeader
  unfolding sheet
  wrong_header header rows more names e differs = rw (e, differs)

  pub under_header : (header : Fields) (rows more : List Fields) (names : Fields) → rows ≡ names ∷ more → pointwise bytes_eq names header ≡ true → after [] (each_from read 0 more) ≡ sheet read header rows
  unfolding sheet
  under_header header rows more names e same = rw (e, same) (whole (each_from read 0 more))
