use Rattle.std.proofs.Common.{refl}
use Rattle.std.proofs.lemmas.Result.{err_from_is_err_and}
use Rattle.noc_requests.specs.Asked.{lent_files}
use Rattle.noc_requests.specs.Ending.{at_fault}
use Rattle.noc_answers.proofs.RankedLemmas.{request-answered, texts-answered}
use Rattle.noc_answers.proofs.answers.answer_one.Goals as goal

pub returns-in_err-files : goal.returns-in_err-files
returns-in_err-files g c =
    let p = err_from_is_err_and c.from_residual.result c.from_residual.ensures.1 in
    request-answered g.W.Sink.contents g.W.Sink.has_failed c.args.sink.now c.args.sink.now c.args.request.now c.from_residual.result (rw (p.1, p.2) (at_fault refl c.in_err-files.ensures.fault))

pub returns : goal.returns
returns g c =
    texts-answered g.W.Sink.contents g.W.Sink.has_failed c.args.sink.now c.answer_files.new.sink c.args.request.now c.answer_files.result (lent_files c.in_ok-files.files) c.in_ok-files.ensures.files
    c.answer_files.ensures
