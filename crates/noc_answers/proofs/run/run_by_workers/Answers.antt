use Rattle.std.proofs.Common.{◌≡◌, ◌+◌, ◌<◌, arith, refl, rules, subst, sym}
use Rattle.std.proofs.lemmas.Result.{err_from_is_err_and}
use Rattle.noc_requests.specs.Asked.{lent_files}
use Rattle.noc_requests.specs.Answer.{a_report}
use Rattle.noc_requests.specs.Drain.{RunsTo}
use Rattle.noc_requests.specs.Ending.{at_fault, unstarted}
use Rattle.noc_requests.specs.Run.{AsksForRun, ending}
use Rattle.noc_requests.proofs.EndingLemmas.{answered}
use Rattle.noc_answers.proofs.RequestLemmas.{ran-report, runs-report, some-run}
use Rattle.noc_answers.proofs.run.run_by_workers.Goals as goal

pub opening_network-requires : goal.opening_network-requires
opening_network-requires g c = (search rules, runs-report _ c.args.task.report c.requires.report)

pub returns-in_err-network : goal.returns-in_err-network
returns-in_err-network g c =
    let p = err_from_is_err_and c.from_residual.result c.from_residual.ensures.1 in
    rw (p.1, p.2) (at_fault refl c.in_err-network.ensures.fault)

pub returns-in-Ok : goal.returns-in-Ok
returns-in-Ok g c =
    let a = lent_files c.args.files.now in
    let net = c.in-Ok.network in
    let before = c.in_ok-network.network in
    let opened = c.in_ok-network.ensures.network in
    let cycles : before.count + c.in_ok-network.cycles ≡ c.in_ok-network.cycles = omega (arith, c.in_ok-network.ensures.opening) in
    let asks : AsksForRun a net =
    ran-report a c.args.task.report c.args.task.drain before net opened.0 c.in_ok-network.cycles c.requires.report c.requires.drain opened.1 c.in-Ok.ensures.net
    (subst (λ n. RunsTo c.args.task.drain net.net n net.count) cycles c.in-Ok.ensures.end) in
    answered g.W.Sink.contents g.W.Sink.has_failed c.args.sink.now c.write_report.new.sink a _ (ending net) c.write_report.result c.ended.result
    (a_report c.requires.report asks) c.write_report.ensures (rw (← c.ending.ensures) c.ended.ensures)

pub returns-in-Err-Memory : goal.returns-in-Err-Memory
returns-in-Err-Memory g c =
    let asks = some-run (lent_files c.args.files.now) c.args.task.report c.args.task.drain c.in_ok-network.network c.in_ok-network.ensures.network.0 c.requires.report c.requires.drain in
    unstarted refl (subst (λ n. 1 < n) (sym c.requires.workers) c.requires.number) (λ e. cc e) (a_report c.requires.report asks.1)

pub returns-in-Err-NoWorker : goal.returns-in-Err-NoWorker
returns-in-Err-NoWorker g c =
    let asks = some-run (lent_files c.args.files.now) c.args.task.report c.args.task.drain c.in_ok-network.network c.in_ok-network.ensures.network.0 c.requires.report c.requires.drain in
    unstarted refl (subst (λ n. 1 < n) (sym c.requires.workers) c.requires.number) (λ e. cc e) (a_report c.requires.report asks.1)
