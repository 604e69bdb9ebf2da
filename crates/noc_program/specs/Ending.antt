-- How an answer ends that was written through a buffer, and the program with it.
use Rattle.std.specs.Prelude.{◌≡◌, ◌⊎◌, ◌≤◌, ℕ, List, Option, Result, Ok, Err, take}
use Rattle.std.specs.Io.KnownBytes.{Appends}
use Rattle.noc_bytes.specs.declared.writing.WriteFault.{WriteFault}
use Rattle.noc_faults.specs.declared.fault.Fault.{Fault}
use Rattle.noc_faults.specs.declared.fault.Fault.TheVariants.{Write}
use Rattle.noc_faults.specs.declared.status.Status.{Status}

-- An answer keeps its status only if all of it is out. A fault of writing has the number of bytes
-- that the device took. Each other fault stays.
abbrev pub EndsAs : Type 0 → ℕ → Result Status Fault → Result Status Fault → Type 0
EndsAs IsOut taken (Ok status) (Ok end) = (end ≡ status) × IsOut
EndsAs IsOut taken (Err fault) (Ok end) = ⊥
EndsAs IsOut taken (Ok status) (Err end) = end ≡ Write (record { written = taken })
EndsAs IsOut taken (Err (Write fault)) (Err end) = end ≡ Write (record { written = taken })
EndsAs IsOut taken (Err fault) (Err end) = end ≡ fault

-- a device has the whole text, or, where writing failed, just the bytes that the fault counts
abbrev pub IsOnDevice : {W : Type 0} → (W → Option (List ℕ)) → W → W → List ℕ
    → Result (Unit {0}) WriteFault → Type 0
IsOnDevice contents before after text (Ok done) = Appends (contents before) (contents after) text
IsOnDevice contents before after text (Err fault) =
    Appends (contents before) (contents after) (take fault.written text)

-- the program ends with a status of docs/FORMATS.md
abbrev pub IsExitStatus : ℕ → Type 0
IsExitStatus n = (n ≡ 0) ⊎ ((2 ≤ n) × (n ≤ 7))
