-- How answering ends.
use Rattle.std.specs.Prelude.{◌≡◌, ◌≢◌, ◌<◌, ℕ, Bool, true, false, List, Result, Ok, Err}
use Rattle.noc_bytes.specs.declared.writing.WriteFault.{WriteFault}
use Rattle.noc_net.specs.declared.workers.RunFault.{RunFault}
use Rattle.noc_net.specs.declared.workers.RunFault.TheVariants.{LostWorker}
use Rattle.noc_faults.specs.declared.status.Status.{Status}
use Rattle.noc_faults.specs.declared.fault.Fault.{Fault}
use Rattle.noc_faults.specs.declared.fault.Fault.TheVariants as fault

-- a fault of a run by workers, or of writing
abbrev pub is_late : Fault → Bool
is_late (fault.Run f) = true
is_late (fault.Write f) = true
is_late _ = false

-- the fault is one of these, and none of a run by workers or of writing
abbrev pub Refuses : (Fault → Type 0) → Fault → Type 0
Refuses IsFirst f = (is_late f ≡ false) × IsFirst f

-- how an answer ends whose text was written, or could not be
abbrev pub ended : Result (Unit {0}) WriteFault → Status → Result Status Fault
ended (Ok done) status = Ok status
ended (Err f) status = Err (fault.Write f)

-- A text that is asked for was written, and this is the status with it; or writing it failed.
-- Otherwise nothing was written. Then a text is asked for, and two or more workers were refused
-- memory or a thread; or the fault is the first one.
pub data Ends (workers : ℕ) (Wrote : List ℕ → Result (Unit {0}) WriteFault → Type 0)
    (IsUnwritten : Type 0) (Asks : List ℕ → Status → Type 0) (IsFirst : Fault → Type 0)
    : Result Status Fault → Type 0 where
  in_full : {text : List ℕ} {status : Status} → Asks text status → Wrote text (Ok tt)
      → Ends workers Wrote IsUnwritten Asks IsFirst (Ok status)
  cut_off : {text : List ℕ} {status : Status} {f : WriteFault} → Asks text status
      → Wrote text (Err f) → Ends workers Wrote IsUnwritten Asks IsFirst (Err (fault.Write f))
  unstarted : {text : List ℕ} {status : Status} {f : RunFault} → IsUnwritten → 1 < workers
      → f ≢ LostWorker → Asks text status
      → Ends workers Wrote IsUnwritten Asks IsFirst (Err (fault.Run f))
  at_fault : {f : Fault} → IsUnwritten → Refuses IsFirst f
      → Ends workers Wrote IsUnwritten Asks IsFirst (Err f)
