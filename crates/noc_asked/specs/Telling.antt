-- How the program tells how it has ended: the exit status, and the line of a fault.
use Rattle.std.specs.Prelude.{◌≡◌, ℕ, Bool, List, Option, Result, Ok, Err}
use Rattle.noc_faults.specs.Line.{line_of}
use Rattle.noc_faults.specs.Status.{status_code, status_of_fault}
use Rattle.noc_faults.specs.declared.fault.Fault.{Fault}
use Rattle.noc_faults.specs.declared.status.Status.{Status}
use Rattle.noc_files.specs.Writing.{Wrote}
use Rattle.noc_bytes.specs.declared.writing.WriteFault.{WriteFault}

-- the exit status is that of the answer, and the line of a fault is written
abbrev pub Tells : {S : Type 0} → (S → Option (List ℕ)) → (S → Bool) → S → S → Result Status Fault
    → ℕ → Type 0
Tells contents failed old new (Ok ended) status = (status ≡ status_code ended) × (new ≡ old)
Tells contents failed old new (Err fault) status =
    (status ≡ status_of_fault fault)
    × ((done : Result (Unit {0}) WriteFault) × Wrote contents failed old new (line_of fault) done)
