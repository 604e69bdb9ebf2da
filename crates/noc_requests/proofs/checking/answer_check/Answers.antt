use Rattle.std.proofs.Common.{refl}
use Rattle.std.proofs.lemmas.Result.{err_from_is_err_and}
use Rattle.noc_requests.specs.Answer.{accepted}
use Rattle.noc_requests.specs.Asked.{lent_files}
use Rattle.noc_requests.specs.Ending.{at_fault}
use Rattle.noc_requests.proofs.EndingLemmas.{answered}
use Rattle.noc_requests.proofs.checking.answer_check.Goals as goal

pub returns-in_err-checked_relation : goal.returns-in_err-checked_relation
returns-in_err-checked_relation g c =
    let p = err_from_is_err_and c.from_residual.result c.from_residual.ensures.1 in
    rw (p.1, p.2) (at_fault refl c.in_err-checked_relation.ensures.fault)

pub returns : goal.returns
returns g c =
    answered g.W.Sink.contents g.W.Sink.has_failed c.args.sink.now c.write_pieces.new.sink (lent_files c.args.files.now) _ _ c.write_pieces.result c.ended.result
    (accepted c.requires c.in_ok-checked_relation.ensures.checked) c.write_pieces.ensures c.ended.ensures
