-- Files of rows in their plainest form: fields without quotes, a comma between them, and a
-- line feed after each row.
use Rattle.std.specs.Prelude.{◌≢◌, ℕ, ◌<◌, List, [], ◌∷◌, ◌++◌, length}
use Rattle.std.specs.List.{flat_map}
use Rattle.noc_topo.specs.Lists.{Each}
use Rattle.noc_files.specs.Rows.{Fields}
use Rattle.noc_files.specs.Writing.{comma, line_end}

-- an ASCII byte that is no comma, no quote and no end of a line
pub record IsPlain (c : ℕ) : Type 0 where
  pub ascii : c < 128
  pub no_comma : c ≢ 44
  pub no_quote : c ≢ 34
  pub no_line_feed : c ≢ 10
  pub no_return : c ≢ 13

-- fields of such bytes, of which the first is not empty
abbrev pub IsPlainRow : Fields → Type 0
IsPlainRow [] = ⊥
IsPlainRow (first ∷ others) = (0 < length first) × Each IsPlain first × Each (Each IsPlain) others

-- fields, each after a comma
abbrev pub after_commas : Fields → List ℕ
after_commas others = flat_map (λ field. comma ++ field) others

-- the line of a row
abbrev pub row_line : Fields → List ℕ
row_line [] = line_end
row_line (first ∷ others) = first ++ after_commas others ++ line_end

-- the lines of rows
abbrev pub plain_text : List Fields → List ℕ
plain_text rows = flat_map row_line rows
