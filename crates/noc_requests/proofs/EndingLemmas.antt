-- How answering ends.
use Rattle.std.proofs.Common.{◌≡◌, ℕ, Bool, List, Option, Result, Ok, Err, subst, sym}
use Rattle.noc_files.specs.Writing.{Wrote}
use Rattle.noc_bytes.specs.declared.writing.WriteFault.{WriteFault}
use Rattle.noc_requests.specs.Asked.{Asked}
use Rattle.noc_requests.specs.Answer.{AsksFor, IsAnswered}
use Rattle.noc_requests.specs.Ending.{Ends, Refuses, at_fault, cut_off, ended, in_full, unstarted}
use Rattle.noc_faults.specs.declared.status.Status.{Status}
use Rattle.noc_faults.specs.declared.fault.Fault.{Fault}

-- a fault that one step refuses with is refused with by what it is a step of
pub refuses_more : (P Q : Fault → Type 0) (f : Fault) → (P f → Q f) → Refuses P f → Refuses Q f
refuses_more P Q f more r = (r.0, more r.1)

module _ (workers : ℕ) (Wrote : List ℕ → Result (Unit {0}) WriteFault → Type 0) (IsUnwritten : Type 0) (Asks : List ℕ → Status → Type 0) (IsFirst : Fault → Type 0) where
  -- what a step ends with, of which another asks for the same texts and has the same faults
  pub ends_more : (Asks' : List ℕ → Status → Type 0) (IsFirst' : Fault → Type 0) (result : Result Status Fault)
      → ((text : List ℕ) (status : Status) → Asks text status → Asks' text status) → ((f : Fault) → IsFirst f → IsFirst' f)
      → Ends workers Wrote IsUnwritten Asks IsFirst result → Ends workers Wrote IsUnwritten Asks' IsFirst' result
  ends_more Asks' IsFirst' result asks first (in_full x wrote) = in_full (asks _ _ x) wrote
  ends_more Asks' IsFirst' result asks first (cut_off x wrote) = cut_off (asks _ _ x) wrote
  ends_more Asks' IsFirst' result asks first (unstarted none many lost x) = unstarted none many lost (asks _ _ x)
  ends_more Asks' IsFirst' result asks first (at_fault {f = f} none refuses) = at_fault none (refuses_more IsFirst IsFirst' f (first f) refuses)

-- what texts ask for was written, or could not be
module _ {S : Type 0} (contents : S → Option (List ℕ)) (failed : S → Bool) (old new : S) (a : Asked) where
  pub answered : (text : List ℕ) (status : Status) (written : Result (Unit {0}) WriteFault) (result : Result Status Fault) → AsksFor a text status
      → Wrote contents failed old new text written → result ≡ ended written status → IsAnswered contents failed old new a result
  answered text status written result asks wrote is = subst (IsAnswered contents failed old new a) (sym is) (by written wrote)
    where
      by : (w : Result (Unit {0}) WriteFault) → Wrote contents failed old new text w → IsAnswered contents failed old new a (ended w status)
      by (Ok done) wrote = in_full asks wrote
      by (Err f) wrote = cut_off asks wrote
