-- What a sink took of a text.
use Rattle.std.specs.Prelude.{◌≡◌, ℕ, ◌<◌, Bool, true, List, length, take, Option, Result, Ok, Err}
use Rattle.std.specs.Io.KnownBytes.{Appends}
use Rattle.noc_bytes.specs.declared.writing.WriteFault.{WriteFault}

-- a sink took all of a text, or failed after just the bytes that the fault counts
abbrev pub Wrote : {S : Type 0} → (S → Option (List ℕ)) → (S → Bool) → S → S → List ℕ
    → Result (Unit {0}) WriteFault → Type 0
Wrote contents failed old new text (Ok _) = Appends (contents old) (contents new) text
Wrote contents failed old new text (Err f) =
    (f.written < length text) × Appends (contents old) (contents new) (take f.written text)
    × (failed new ≡ true)
