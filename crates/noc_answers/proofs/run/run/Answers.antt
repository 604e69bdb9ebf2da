use Rattle.std.proofs.Common.{◌≡◌, ◌+◌, ◌∙◌, ap, arith, refl, rules, subst}
use Rattle.std.proofs.lemmas.Result.{err_from_is_err_and}
use Rattle.noc_theory.specs.Network.{Run}
use Rattle.noc_requests.specs.Asked.{lent_files}
use Rattle.noc_requests.specs.Answer.{a_report}
use Rattle.noc_requests.specs.Drain.{RunsTo}
use Rattle.noc_requests.specs.Ending.{at_fault}
use Rattle.noc_requests.specs.Run.{AsksForRun, ending}
use Rattle.noc_requests.proofs.EndingLemmas.{answered}
use Rattle.noc_answers.proofs.RequestLemmas.{ran-report, runs-report}
use Rattle.noc_answers.proofs.run.run.Goals as goal

pub opening_network-requires : goal.opening_network-requires
opening_network-requires g c = (search rules, runs-report _ c.args.report c.requires.report)

pub returns-in_err-network : goal.returns-in_err-network
returns-in_err-network g c =
    let p = err_from_is_err_and c.from_residual.result c.from_residual.ensures.1 in
    rw (p.1, p.2) (at_fault refl c.in_err-network.ensures.fault)

pub returns : goal.returns
returns g c =
    let a = lent_files c.args.files.now in
    let net = c.run_on.new.network in
    let opened = c.in_ok-network.ensures.network in
    let before = c.in_ok-network.network in
    let after : Run = record before { count = before.count + c.in_ok-network.cycles } in
    let added : c.run.new.self.count ≡ after.count = ap (λ (u : Run). u.count) {y = after} c.run.ensures.value in
    let count : c.run.new.self.count ≡ c.in_ok-network.cycles = omega (arith, added, c.in_ok-network.ensures.opening) in
    let asks : AsksForRun a net =
    ran-report a c.args.report c.args.drain before net opened.0 c.in_ok-network.cycles c.requires.report c.requires.drain opened.1
    (c.run_on.ensures.net ∙ ap (λ (u : Run). u.net) {y = after} c.run.ensures.value) (subst (λ n. RunsTo c.args.drain net.net n net.count) count c.run_on.ensures.end) in
    answered g.W.Sink.contents g.W.Sink.has_failed c.args.sink.now c.write_report.new.sink a _ (ending net) c.write_report.result c.ended.result
    (a_report c.requires.report asks) c.write_report.ensures (rw (← c.ending.ensures) c.ended.ensures)
