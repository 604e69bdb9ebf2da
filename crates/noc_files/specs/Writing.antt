-- What a sink took of a text whose bytes are counted, and the small texts of which reports are
-- made.
use Rattle.std.specs.Prelude.{◌≡◌, ℕ, Bool, List, length, codes, decimal, Option, Some, None, Result, Ok, Err}
use Rattle.std.specs.List.{flat_map}
use Rattle.noc_bytes.specs.declared.writing.WriteFault.{WriteFault}
pub use Rattle.noc_bytes.specs.Writing.{Wrote}

-- `Wrote`, where the bytes of the whole text are counted too
abbrev pub Puts : {S : Type 0} → (S → Option (List ℕ)) → (S → Bool) → S → S → List ℕ
    → Result ℕ WriteFault → Type 0
Puts contents failed old new text (Ok n) =
    (n ≡ length text) × Wrote contents failed old new text (Ok tt)
Puts contents failed old new text (Err f) = Wrote contents failed old new text (Err f)

-- how many bytes a sink took
abbrev pub taken : Result ℕ WriteFault → ℕ
taken (Ok n) = n
taken (Err f) = f.written

-- pieces one after the other
abbrev pub text_of_pieces : List (List ℕ) → List ℕ
text_of_pieces pieces = flat_map (λ piece. piece) pieces

abbrev pub comma : List ℕ
comma = codes ","

abbrev pub line_end : List ℕ
line_end = codes "\n"

-- a number, or a text where there is none
abbrev pub number_or : Option ℕ → List ℕ → List ℕ
number_or None none = none
number_or (Some n) none = decimal n

-- a number, or a dash
abbrev pub dash_or : Option ℕ → List ℕ
dash_or n = number_or n (codes "-")
