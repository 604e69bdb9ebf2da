use Rattle.std.proofs.Common.{◌≡◌, ◌∙◌, Ok, ap, refl, rules, sym}
use Rattle.std.specs.Result.{result_copied}
use Rattle.std.proofs.lemmas.Result.{IfErr-at_err, err_from_is_err_and}
use Rattle.noc_faults.specs.declared.fault.Fault.TheVariants as fault
use Rattle.noc_requests.specs.Asked.{is_joined, owned_text}
use Rattle.noc_requests.specs.Asked.{as_files, as_joined}
use Rattle.noc_requests.specs.Answer.{FirstFault, unread, unsplit}
use Rattle.noc_requests.specs.Ending.{Refuses}
use Rattle.noc_requests.proofs.AskedLemmas.{not_joined}
use Rattle.noc_requests.proofs.FaultLemmas.{if_fault, value_of}
use Rattle.noc_answers.proofs.answers.read_request.Goals as goal

pub returns-in_default : goal.returns-in_default
returns-in_default c = record { files = rw c.files_of.ensures (as_files (not_joined _ c.in_default.not-Joined)); fault = tt }

pub returns-in_err-text-clause-fault : goal.returns-in_err-text-clause-fault
returns-in_err-text-clause-fault c =
    let refuses = Refuses (FirstFault c.args.request.now) in
    let p = err_from_is_err_and c.from_residual.result c.from_residual.ensures.1 in
    rw (p.1, p.2) (IfErr-at_err refuses c.in_err-text.was
    (if_fault _ c.as_ref-config.result c.map_err.result refuses c.map_err.ensures.cases (λ e d is names.
    let same : d ≡ fault.Joined e.now = search rules in
    rw same (refl, unread (ap is_joined c.in-Joined.is) (ap owned_text (sym c.as_ref-config.ensures.value ∙ ap result_copied is))))))

pub returns-in-Some-clause-files : goal.returns-in-Some-clause-files
returns-in-Some-clause-files c =
    let is = value_of _ c.as_ref-config.result c.map_err.result c.in_ok-text.text c.map_err.ensures.cases c.in_ok-text.was in
    let text = ap owned_text (sym c.as_ref-config.ensures.value ∙ ap result_copied is) ∙ ap Ok (sym c.as_slice.ensures.value) in
    as_joined (ap is_joined c.in-Joined.is) text c.in-Some.ensures.1

pub returns-in-None-clause-fault : goal.returns-in-None-clause-fault
returns-in-None-clause-fault c =
    let is = value_of _ c.as_ref-config.result c.map_err.result c.in_ok-text.text c.map_err.ensures.cases c.in_ok-text.was in
    let text = ap owned_text (sym c.as_ref-config.ensures.value ∙ ap result_copied is) ∙ ap Ok (sym c.as_slice.ensures.value) in
    (refl, unsplit (ap is_joined c.in-Joined.is) text c.in-None.ensures)
