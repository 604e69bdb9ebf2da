-- The rows of a file, and the numbers in them.
use Rattle.std.specs.Prelude.{◌≡◌, ℕ, ◌+◌, ◌^◌, ◌<◌, ◌≤◌, Bool, false, true, List, [], length, All, Option, Some, None, Result, nat_le, nat_lt, ◌&&◌, if◌then◌else◌, option_and_then}
use Rattle.std.specs.Borrow.{Bor}
use Rattle.std.specs.Char.{IsAsciiDigit}
use Rattle.std.specs.Option.{ok_or}
use Rattle.std.specs.Str.{all_ascii_digits}
use Rattle.std.specs.Str.Parse.{digits_value}
use Rattle.csv.specs.Machine.{ends_at_end}
use Rattle.csv.specs.Records.{field_at}
use Rattle.csv.specs.Reading.{Ready, default_config, is_flexible, reader_config, reader_state, reader_trim, records, records_from, source_of, strip_bom}
use Rattle.csv.specs.declared.parser.State.{State}
use Rattle.csv.specs.declared.reader.Reader.{Reader}
use Rattle.csv.specs.declared.reader.Trim.TheVariants as trim
use Rattle.noc_bytes.specs.declared.input_fault.InputFault.{InputFault}
use Rattle.noc_bytes.specs.declared.input_fault.InputFault.TheVariants.{BadNumber}

-- a row, each field as its bytes
abbrev pub Fields : Type 0
Fields = List (List ℕ)

-- the rows of a text, the header too
abbrev pub text_rows : List ℕ → List Fields
text_rows text = records default_config (strip_bom text)

-- the rows that a reader in this state finds in these bytes
abbrev pub rows_at : State → Option (List ℕ) → List Fields
rows_at s None = []
rows_at s (Some bytes) = records_from default_config (length bytes + 1) s bytes

-- the rows that a reader of a text has left
abbrev pub rows_left : Reader (Bor (List ℕ)) → List Fields
rows_left r = rows_at (reader_state r) (source_of (λ s. Some s.now) r)

-- a reader that stands before a row or at the end, and takes rows of any length as they are
pub record IsBetweenRows (r : Reader (Bor (List ℕ))) : Type 0 where
  pub plain : reader_trim r ≡ trim.None
  pub ready : Ready r
  pub config : reader_config r ≡ default_config
  pub any_length : is_flexible r ≡ true
  pub between : ends_at_end (reader_state r) ≡ false
  pub bytes : List ℕ
  pub source : source_of (λ s. Some s.now) r ≡ Some bytes

-- 1 to 10 decimal digits with a value below 2 ^ 32
abbrev pub is_number : List ℕ → Bool
is_number field =
    all_ascii_digits field && nat_le 1 (length field) && nat_le (length field) 10
    && nat_lt (digits_value 10 field) (2 ^ 32)

-- the number that a field writes
abbrev pub number_of : List ℕ → Option ℕ
number_of field = if is_number field then Some (digits_value 10 field) else None

-- the number in a column of a row, counted from 0
abbrev pub number_at : ℕ → ℕ → Fields → Result ℕ InputFault
number_at row column fields =
    ok_or (option_and_then number_of (field_at fields column)) (BadNumber row column)

-- a field that writes this number, at most 4294967295, by 1 to 10 decimal digits
pub record IsNumeral (field : List ℕ) (n : ℕ) : Type 0 where
  pub digits : All IsAsciiDigit field
  pub some : 1 ≤ length field
  pub few : length field ≤ 10
  pub value : digits_value 10 field ≡ n
  pub fits : n < 2 ^ 32

-- a field that writes some number
abbrev pub HasNumeral : List ℕ → Type 0
HasNumeral field = (n : ℕ) × IsNumeral field n
