-- How the program ends.
use Rattle.std.specs.Prelude.{◌≡◌, ◌⊎◌, ℕ, Bool, List, Option, Some, None, Result, Ok, Err, ⊤}
use Rattle.noc_requests.specs.Answer.{Asks, FirstFault}
use Rattle.noc_requests.specs.Ending.{Ends}
use Rattle.noc_requests.specs.declared.request.Request.{Request}
use Rattle.noc_commands.specs.Workers.{workers_of}
use Rattle.noc_faults.specs.declared.fault.Fault.{Fault}
use Rattle.noc_faults.specs.declared.fault.Fault.TheVariants.{Config, Write}
use Rattle.noc_faults.specs.declared.status.Status.{Status}
use Rattle.noc_faults.specs.declared.status.Status.TheVariants.{Done}
use Rattle.noc_bytes.specs.declared.input_fault.InputFault.TheVariants.{Memory}
use Rattle.noc_bytes.specs.declared.writing.WriteFault.{WriteFault}
use Rattle.noc_program.specs.Ending.{IsOnDevice}
use Rattle.noc_program.specs.Requests.{Asks as AsksFor, AsksForVersion}
use Rattle.noc_asked.specs.Telling.{Tells}

-- how answering a request ends on a device, and the device after it; it is not given back only
-- where there was no memory for the way to it
abbrev pub IsEndOn : {W : Type 0} → (W → Option (List ℕ)) → Request → W → Result Status Fault
    → Option W → Type 0
IsEndOn contents r device ended None = ended ≡ Err (Config Memory)
IsEndOn contents r device ended (Some after) =
    Ends (workers_of r.command) (IsOnDevice contents device after) (after ≡ device) (Asks r)
    (FirstFault r) ended

-- how answering a request ends, whatever the device is on which the answer goes: `Done` and `Stuck`
-- are of the text that is asked for. There may also be no memory for the way to the device.
abbrev pub IsEndOf : Request → Result Status Fault → Type 0
IsEndOf r ended =
    Ends (workers_of r.command) (λ text done. ⊤) ⊤ (Asks r) (FirstFault r) ended
    ⊎ (ended ≡ Err (Config Memory))

-- the version was printed, or its writing failed
abbrev pub TellsVersion : {S : Type 0} → (S → Option (List ℕ)) → (S → Bool) → S → S → ℕ → Type 0
TellsVersion contents failed old new status =
    Tells contents failed old new (Ok Done) status
    ⊎ ((f : WriteFault) × Tells contents failed old new (Err (Write f)) status)

-- a request was answered, and how that ended is told
pub record WasAnswered {S : Type 0} (contents : S → Option (List ℕ)) (failed : S → Bool)
    (old new : S) (r : Request) (status : ℕ) : Type 0 where
  pub ended : Result Status Fault
  pub is_end : IsEndOf r ended
  pub told : Tells contents failed old new ended status

-- what these words ask for was done: a request was answered, or the version was printed
pub data HasEnded {S : Type 0} (contents : S → Option (List ℕ)) (failed : S → Bool) (old new : S)
    (words : List (List ℕ)) (status : ℕ) : Type 0 where
  answered : {r : Request} → AsksFor words r → WasAnswered contents failed old new r status
      → HasEnded contents failed old new words status
  versioned : AsksForVersion words → TellsVersion contents failed old new status
      → HasEnded contents failed old new words status
