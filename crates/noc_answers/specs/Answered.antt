-- What an answer to a request is, of a run with ranks too.
use Rattle.std.specs.Prelude.{◌≡◌, ℕ, Bool, List, IfOk, Option, Result, Ok}
use Rattle.noc_commands.specs.Workers.{workers_of}
use Rattle.noc_faults.specs.declared.fault.Fault.{Fault}
use Rattle.noc_faults.specs.declared.status.Status.{Status}
use Rattle.noc_faults.specs.declared.status.Status.TheVariants.{Done}
use Rattle.noc_files.specs.Writing.{Wrote}
use Rattle.noc_requests.specs.Answer.{Asks, AsksForArrivals, FirstFault, IsRankedDrain, IsRankedRun}
use Rattle.noc_requests.specs.Ending.{Ends}
use Rattle.noc_requests.specs.declared.request.Request.{Request}

-- What a request asks for is written into a sink, or its first fault is answered and nothing is
-- written. A run with ranks that ends without a fault is done. Where it is to drain too, what was
-- written is the report of a run in which every packet has arrived.
pub record IsRequestAnswered {S : Type 0} (contents : S → Option (List ℕ)) (failed : S → Bool)
    (old new : S) (r : Request) (result : Result Status Fault) : Type 0 where
  pub ends :
      Ends (workers_of r.command) (Wrote contents failed old new) (new ≡ old) (Asks r)
      (FirstFault r) result
  pub ranked : IsRankedRun r → IfOk result (λ status. status ≡ Done)
  pub drained : IsRankedDrain r → IfOk result (λ _. (text : List ℕ) × AsksForArrivals r text
      × Wrote contents failed old new text (Ok tt))
