use Rattle.std.proofs.Common.{◌≡◌, ap, sym, subst}
use Rattle.noc_requests.specs.Asked.{ReadsAs, as_files, files_of, is_joined, lent_files}
use Rattle.noc_answers.proofs.RankedLemmas.{texts-answered}
use Rattle.noc_answers.proofs.answers.answer.Goals as goal

pub returns-in-Run : goal.returns-in-Run
returns-in-Run g c =
    let r = c.args.request.now in
    let a = lent_files c.files_of.result in
    let same : a ≡ files_of r = c.files_of.ensures in
    texts-answered g.W.Sink.contents g.W.Sink.has_failed c.args.sink.now c.run_by_workers.new.sink r c.run_by_workers.result a (subst (ReadsAs r) (sym same) (as_files (ap is_joined c.in-Run.is)))
    c.run_by_workers.ensures
