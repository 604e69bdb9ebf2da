-- A file of ranks is refused with its first fault.
use Rattle.std.proofs.Common.{◌≡◌, ◌≢◌, inl, inr, ℕ, zero, suc, ◌<◌, List, [], ◌∷◌, length, slice_index_or, Option, Some, None, Result, Ok, Err, ap, arith, refl, sym, ◌∙◌, ◌==◌}
use Rattle.std.proofs.lemmas.Option.{none-some}
use Rattle.csv.specs.Records.{field_at}
use Rattle.noc_rank.specs.declared.rows.RankRow.{RankRow}
use Rattle.noc_topo.specs.Shape.{Grid, IsGrid}
use Rattle.noc_bytes.specs.declared.input_fault.InputFault.{InputFault}
use Rattle.noc_bytes.specs.declared.input_fault.InputFault.TheVariants.{BadCount, BadNumber, BadPort}
use Rattle.noc_files.specs.Columns.{HasBadColumn, field_fault}
use Rattle.noc_files.specs.Ports.{port_named}
use Rattle.noc_files.specs.Rows.{Fields, number_of, text_rows}
use Rattle.noc_files.specs.Ranks.{IsRankField, IsRankFileFault, IsRankRowFault, MayHold, WritesRank, rank_header, rank_of, rank_row_of, ranks_of}
use Rattle.noc_files.proofs.FaultLemmas.{breaks_sheet, sheet_breaks}
use Rattle.noc_files.proofs.PortLemmas.{is_port, port_is}
use Rattle.noc_files.proofs.SheetLemmas.{is_numeral, numeral_is}
use Rattle.noc_files.proofs.RankLemmas.{is_rank, is_rank_field, rank_field_is, rank_is}
use Rattle.noc_files.proofs.TableFaultLemmas.{no_port, none_named}
use Rattle.noc_files.proofs.TrafficFaultLemmas.{no_numeral, none_of, unlike}
use Rattle.noc_files.proofs.TrafficLemmas.{differs}
use borrow.Author.Count.{below_more, below_none}

no_rank : (field : List ℕ) → rank_of field ≡ None → (rank : Option ℕ) × IsRankField field rank → ⊥
no_rank field e h = none-some h.0 (sym e ∙ is_rank_field field h.0 h.1)

none_ranked : (field : List ℕ) → ((rank : Option ℕ) × IsRankField field rank → ⊥) → rank_of field ≡ None
none_ranked field h = by (rank_of field) refl
  where
    by : (o : Option (Option ℕ)) → rank_of field ≡ o → rank_of field ≡ None
    by (Some rank) e = absurd (h (rank, rank_field_is field rank e))
    by None e = e

-- a row has a field that its column may not hold
abbrev IsBad : Grid → ℕ → Fields → InputFault → Type 0
IsBad g row fields fault = HasBadColumn 4 (MayHold g) (λ at column. field_fault (column == 1) at column) row fields fault

module _ (g : Grid) (grid : IsGrid g) where
  four_fault : (row : ℕ) (a b c d : List ℕ) (fault : InputFault) → (oa : Option ℕ) → number_of a ≡ oa → (ob : Option ℕ) → port_named g b ≡ ob → (oc : Option ℕ) → number_of c ≡ oc → (od : Option (Option ℕ)) → rank_of d ≡ od
      → rank_row_of g row (a ∷ b ∷ c ∷ d ∷ []) ≡ Err fault → IsBad g row (a ∷ b ∷ c ∷ d ∷ []) fault
  unfolding rank_row_of field_at
  four_fault row a b c d fault None ea ob eb oc ec od ed e =
      let said : Path (Result RankRow InputFault) (Err (BadNumber row 0)) (Err fault) = rw ea at e in
      record { all_there = refl; column = 0; known = omega arith; before = below_none _; bad = no_numeral a ea; fault_is = cc }
  four_fault row a b c d fault (Some na) ea None eb oc ec od ed e =
      let said : Path (Result RankRow InputFault) (Err (BadPort row 1)) (Err fault) = rw (ea, eb) at e in
      record { all_there = refl; column = 1; known = omega arith; before = below_more _ 0 (below_none _) (na, numeral_is a na ea); bad = no_port g grid b eb; fault_is = cc }
  four_fault row a b c d fault (Some na) ea (Some nb) eb None ec od ed e =
      let said : Path (Result RankRow InputFault) (Err (BadNumber row 2)) (Err fault) = rw (ea, eb, ec) at e in
      record { all_there = refl; column = 2; known = omega arith; before = below_more _ 1 (below_more _ 0 (below_none _) (na, numeral_is a na ea)) (nb, port_is g b nb eb); bad = no_numeral c ec; fault_is = cc }
  four_fault row a b c d fault (Some na) ea (Some nb) eb (Some nc) ec None ed e =
      let said : Path (Result RankRow InputFault) (Err (BadNumber row 3)) (Err fault) = rw (ea, eb, ec, ed) at e in
      record { all_there = refl; column = 3; known = omega arith; before = below_more _ 2 (below_more _ 1 (below_more _ 0 (below_none _) (na, numeral_is a na ea)) (nb, port_is g b nb eb)) (nc, numeral_is c nc ec); bad = no_rank d ed; fault_is = cc }
  four_fault row a b c d fault (Some na) ea (Some nb) eb (Some nc) ec (Some nd) ed e =
      let said : Path (Result RankRow InputFault) (Ok (record { router = na; port = nb; vc = nc; rank = nd })) (Err fault) = rw (ea, eb, ec, ed) at e in
      absurd (cc)

  rank_fault : (row : ℕ) (fields : Fields) (fault : InputFault) → rank_row_of g row fields ≡ Err fault → IsRankRowFault g row fields fault
  unfolding rank_row_of field_at
  rank_fault row [] fault e = inl ((λ same. omega arith), cc)
  rank_fault row (a ∷ []) fault e = inl ((λ same. omega arith), cc)
  rank_fault row (a ∷ b ∷ []) fault e = inl ((λ same. omega arith), cc)
  rank_fault row (a ∷ b ∷ c ∷ []) fault e = inl ((λ same. omega arith), cc)
  rank_fault row (a ∷ b ∷ c ∷ d ∷ []) fault e = inr (four_fault row a b c d fault (number_of a) refl (port_named g b) refl (number_of c) refl (rank_of d) refl e)
  rank_fault row (a ∷ b ∷ c ∷ d ∷ f ∷ more) fault e =
      let fields = a ∷ b ∷ c ∷ d ∷ f ∷ more in
      let refused : rank_row_of g row fields ≡ Err (BadCount row) = rw (differs (length fields) 4 (omega arith)) in
      inl ((λ same. omega arith), cc (refused, e))

  -- a field that its column may not hold, in one of four columns
  bad_column : (row : ℕ) (a b c d : List ℕ) (fault : InputFault) (column : ℕ) → column < 4 → ((i : ℕ) → i < column → MayHold g i (slice_index_or (a ∷ b ∷ c ∷ d ∷ []) i []))
      → (MayHold g column (slice_index_or (a ∷ b ∷ c ∷ d ∷ []) column []) → ⊥) → fault ≡ field_fault (column == 1) row column → rank_row_of g row (a ∷ b ∷ c ∷ d ∷ []) ≡ Err fault
  unfolding rank_row_of field_at
  bad_column row a b c d fault zero known before bad e = rw (none_of a bad) (ap (λ (t : InputFault). Err t) (sym e))
  bad_column row a b c d fault (suc zero) known before bad e =
      let h0 = before 0 (omega arith) in
      rw (is_numeral a h0.0 h0.1, none_named g grid b bad) (ap (λ (t : InputFault). Err t) (sym e))
  bad_column row a b c d fault (suc (suc zero)) known before bad e =
      let h0 = before 0 (omega arith) in
      let h1 = before 1 (omega arith) in
      rw (is_numeral a h0.0 h0.1, is_port g b h1.0 grid h1.1, none_of c bad) (ap (λ (t : InputFault). Err t) (sym e))
  bad_column row a b c d fault (suc (suc (suc zero))) known before bad e =
      let h0 = before 0 (omega arith) in
      let h1 = before 1 (omega arith) in
      let h2 = before 2 (omega arith) in
      rw (is_numeral a h0.0 h0.1, is_port g b h1.0 grid h1.1, is_numeral c h2.0 h2.1, none_ranked d bad) (ap (λ (t : InputFault). Err t) (sym e))
  bad_column row a b c d fault (suc (suc (suc (suc n)))) known before bad e = absurd (omega arith)

  wrong_count : (row : ℕ) (fields : Fields) → length fields ≢ 4 → rank_row_of g row fields ≡ Err (BadCount row)
  unfolding rank_row_of
  wrong_count row fields other = rw (unlike (length fields) 4 other)

  column_fault : (row : ℕ) (fields : Fields) (fault : InputFault) → IsBad g row fields fault → rank_row_of g row fields ≡ Err fault
  column_fault row [] fault w = absurd (omega (arith, w.all_there))
  column_fault row (a ∷ []) fault w = absurd (omega (arith, w.all_there))
  column_fault row (a ∷ b ∷ []) fault w = absurd (omega (arith, w.all_there))
  column_fault row (a ∷ b ∷ c ∷ []) fault w = absurd (omega (arith, w.all_there))
  column_fault row (a ∷ b ∷ c ∷ d ∷ []) fault w = bad_column row a b c d fault w.column w.known w.before w.bad w.fault_is
  column_fault row (a ∷ b ∷ c ∷ d ∷ f ∷ more) fault w = absurd (omega (arith, w.all_there))

  fault_rank : (row : ℕ) (fields : Fields) (fault : InputFault) → IsRankRowFault g row fields fault → rank_row_of g row fields ≡ Err fault
  fault_rank row fields fault (inl w) = wrong_count row fields w.0 ∙ ap (λ (t : InputFault). Err t) (sym w.1)
  fault_rank row fields fault (inr w) = column_fault row fields fault w

  -- a text is refused with this fault just where it is its first
  pub rank_file_fault : (text : List ℕ) (fault : InputFault) → ranks_of g text ≡ Err fault → IsRankFileFault g text fault
  rank_file_fault text fault e = sheet_breaks (rank_row_of g) (WritesRank g) (IsRankRowFault g) (rank_is g grid) (is_rank g grid) rank_fault fault_rank rank_header (text_rows text) fault e

  pub fault_rank_file : (text : List ℕ) (fault : InputFault) → IsRankFileFault g text fault → ranks_of g text ≡ Err fault
  fault_rank_file text fault w = breaks_sheet (rank_row_of g) (WritesRank g) (IsRankRowFault g) (rank_is g grid) (is_rank g grid) rank_fault fault_rank rank_header (text_rows text) fault w
