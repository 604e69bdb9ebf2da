-- How answering ends, once it is left out what the device has.
use Rattle.std.proofs.Common.{◌≡◌, ℕ, List, Option, Some, None, Result, Ok, Err, inl, inr}
use Rattle.noc_requests.specs.Answer.{Asks, FirstFault}
use Rattle.noc_requests.specs.Ending.{Ends, at_fault, cut_off, in_full, unstarted}
use Rattle.noc_requests.specs.declared.request.Request.{Request}
use Rattle.noc_commands.specs.Workers.{workers_of}
use Rattle.noc_faults.specs.declared.fault.Fault.{Fault}
use Rattle.noc_faults.specs.declared.status.Status.{Status}
use Rattle.noc_bytes.specs.declared.writing.WriteFault.{WriteFault}
use Rattle.noc_program.specs.Ending.{IsOnDevice}
use Rattle.noc_program.specs.Telling.{IsEndOf, IsEndOn}

module _ (r : Request) (Wrote : List ℕ → Result (Unit {0}) WriteFault → Type 0) (IsUnwritten : Type 0) where
  pub end-of : (ended : Result Status Fault) → Ends (workers_of r.command) Wrote IsUnwritten (Asks r) (FirstFault r) ended → IsEndOf r ended
  end-of (Ok status) (in_full asks wrote) = inl (in_full asks tt)
  end-of (Err f) (cut_off asks wrote) = inl (cut_off asks tt)
  end-of (Err f) (unstarted none many lost asks) = inl (unstarted tt many lost asks)
  end-of (Err f) (at_fault none refuses) = inl (at_fault tt refuses)

-- from what is said of the device where it is given back, and where it is not
pub end-by : {W : Type 0} (contents : W → Option (List ℕ)) (r : Request) (device : W) (ended : Result Status Fault) (given : Option W)
    → IsEndOn contents r device ended given → IsEndOf r ended
end-by contents r device ended None ends = inr ends
end-by contents r device ended (Some after) ends = end-of r (IsOnDevice contents device after) (after ≡ device) ended ends
