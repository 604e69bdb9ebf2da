use Rattle.std.proofs.Common.{Result, ap, subst, sym}
use Rattle.noc_faults.specs.declared.fault.Fault.{Fault}
use Rattle.noc_faults.specs.declared.status.Status.{Status}
use Rattle.noc_program.specs.Telling.{IsEndOf}
use Rattle.noc_program.proofs.TellingLemmas.{end-by}
use Rattle.noc_program.proofs.device.answer_on.Goals as goal
use Rattle.noc_program.proofs.device.answer_on.Goals.{in-Run, in_default}

pub returns : goal.returns
returns g c =
    let r = c.args.request.now in
    elim c.match-request.branch [
      | in-Run w ↦ subst (λ (ended : Result Status Fault). IsEndOf r ended) (sym (ap (λ x. x.0) w.ended-is))
          (end-by g.W.Write.contents r c.args.device w.write_answer.result.0 w.write_answer.result.1 w.write_answer.ensures)
      | in_default w ↦ subst (λ (ended : Result Status Fault). IsEndOf r ended) (sym (ap (λ x. x.0) w.ended-is))
          (end-by g.W.Write.contents r c.args.device w.write_answer_one.result.0 w.write_answer_one.result.1 w.write_answer_one.ensures)
    ]
