-- A row is read as a channel with its rank just where it is four fields that write them.
use Rattle.std.proofs.Common.{◌≡◌, ℕ, Bool, List, [], ◌∷◌, Option, Some, None, Result, Ok, Err, arith, false, true, length, ◌==◌, refl, sym, ap, ◌∙◌}
use Rattle.std.proofs.lemmas.Option.{none-some, same_Some}
use Rattle.std.specs.Cmp.Lexicographic.{same_text}
use Rattle.std.specs.Option.{ok_or}
use Rattle.std.specs.Str.{bytes_eq}
use Rattle.csv.specs.Records.{field_at}
use Rattle.noc_rank.specs.declared.rows.RankRow.{RankRow}
use Rattle.noc_topo.specs.Shape.{Grid, IsGrid}
use Rattle.noc_bytes.specs.declared.input_fault.InputFault.{InputFault}
use Rattle.noc_bytes.specs.declared.input_fault.InputFault.TheVariants.{BadCount, BadNumber}
use Rattle.noc_files.specs.Rows.{Fields, number_of, text_rows}
use Rattle.noc_files.specs.Ranks.{IsRankField, IsRankFile, WritesRank, adaptive, rank_header, rank_of, rank_row_of, ranks_of}
use Rattle.noc_files.proofs.PortLemmas.{is_port}
use Rattle.noc_files.proofs.SheetLemmas.{bind_ok, is_numeral, is_sheet, numeral_is, sheet_is}
use Rattle.noc_files.proofs.TableLemmas.{named_at, port_column}
use Rattle.noc_files.proofs.TrafficLemmas.{column, differs, found_in, numeral_at}

-- ---- a rank, or the text of an adaptive channel

pub rank_field_is : (field : List ℕ) (rank : Option ℕ) → rank_of field ≡ Some rank → IsRankField field rank
rank_field_is field rank e = by (bytes_eq field adaptive) refl (number_of field) refl
  where
    writes : (rank : Option ℕ) (said : Option ℕ) → said ≡ rank → IsRankField field said → IsRankField field rank
    writes rank said same h = rw (← same) h

    by : (b : Bool) → bytes_eq field adaptive ≡ b → (number : Option ℕ) → number_of field ≡ number → IsRankField field rank
    by true is number n = let one : Path (Option (Option ℕ)) (Some None) (Some rank) = rw is at e in writes rank None (same_Some None rank one) (same_text field adaptive (sym is))
    by false other (Some n) is = let one : Path (Option (Option ℕ)) (Some (Some n)) (Some rank) = rw (other, is) at e in writes rank (Some n) (same_Some (Some n) rank one) (numeral_is field n is)
    by false other None none = let one : None ≡ Some rank = rw (other, none) at e in absurd (none-some rank one)

pub is_rank_field : (field : List ℕ) (rank : Option ℕ) → IsRankField field rank → rank_of field ≡ Some rank
is_rank_field field None h = rw h
is_rank_field field (Some n) h = by (bytes_eq field adaptive) refl
  where
    by : (b : Bool) → bytes_eq field adaptive ≡ b → rank_of field ≡ Some (Some n)
    by false other = rw (other, is_numeral field n h)
    by true is =
        let no_number : number_of field ≡ None = ap number_of (same_text field adaptive (sym is)) in
        absurd (none-some n (sym no_number ∙ is_numeral field n h))

-- the rank in a column with this field
abbrev pub rank_column : ℕ → ℕ → List ℕ → Result (Option ℕ) InputFault
rank_column row at field = ok_or (rank_of field) (BadNumber row at)

module _ (g : Grid) (grid : IsGrid g) where
  pub rank_is : (row : ℕ) (fields : Fields) (r : RankRow) → rank_row_of g row fields ≡ Ok r → WritesRank g fields r
  unfolding rank_row_of field_at
  rank_is row [] r e = absurd (cc)
  rank_is row (a ∷ []) r e = absurd (cc)
  rank_is row (a ∷ b ∷ []) r e = absurd (cc)
  rank_is row (a ∷ b ∷ c ∷ []) r e = absurd (cc)
  rank_is row (a ∷ b ∷ c ∷ d ∷ []) r e =
      let router = bind_ok (column row 0 a) _ r e in
      let port = bind_ok (port_column g row 1 b) _ r router.2 in
      let vc = bind_ok (column row 2 c) _ r port.2 in
      let rank = bind_ok (rank_column row 3 d) _ r vc.2 in
      let same : record { router = router.0; port = port.0; vc = vc.0; rank = rank.0 } ≡ r = cc in
      rw (← same) (numeral_at row 0 a router.0 router.1, named_at g row 1 b port.0 port.1, numeral_at row 2 c vc.0 vc.1, rank_field_is d rank.0 (found_in (rank_of d) (BadNumber row 3) rank.0 rank.1))
  rank_is row (a ∷ b ∷ c ∷ d ∷ f ∷ more) r e =
      let other : (length (a ∷ b ∷ c ∷ d ∷ f ∷ more) == 4) ≡ false = differs (length (a ∷ b ∷ c ∷ d ∷ f ∷ more)) 4 (omega arith) in
      let refused : rank_row_of g row (a ∷ b ∷ c ∷ d ∷ f ∷ more) ≡ Err (BadCount row) = rw other in
      absurd (cc (refused, e))

  pub is_rank : (row : ℕ) (fields : Fields) (r : RankRow) → WritesRank g fields r → rank_row_of g row fields ≡ Ok r
  unfolding rank_row_of field_at
  is_rank row (a ∷ b ∷ c ∷ d ∷ []) r w = rw (is_numeral a r.router w.0, is_port g b r.port grid w.1, is_numeral c r.vc w.2, is_rank_field d r.rank w.3)
  is_rank row [] r w = absurd w
  is_rank row (a ∷ []) r w = absurd w
  is_rank row (a ∷ b ∷ []) r w = absurd w
  is_rank row (a ∷ b ∷ c ∷ []) r w = absurd w
  is_rank row (a ∷ b ∷ c ∷ d ∷ f ∷ more) r w = absurd w

  -- a text is read as these rows just where it is the header and rows that write them
  pub rank_file_is : (text : List ℕ) (rows : List RankRow) → ranks_of g text ≡ Ok rows → IsRankFile g text rows
  rank_file_is text rows e = sheet_is (rank_row_of g) (WritesRank g) rank_is is_rank rank_header (text_rows text) rows e

  pub is_rank_file : (text : List ℕ) (rows : List RankRow) → IsRankFile g text rows → ranks_of g text ≡ Ok rows
  is_rank_file text rows h = is_sheet (rank_row_of g) (WritesRank g) rank_is is_rank rank_header (text_rows text) rows h
