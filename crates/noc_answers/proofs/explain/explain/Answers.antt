use Rattle.std.proofs.Common.{◌≡◌, ◌+◌, ap, arith, refl, subst, sym}
use Rattle.std.proofs.lemmas.Result.{err_from_is_err_and}
use Rattle.noc_theory.specs.Network.{Run}
use Rattle.noc_requests.specs.Answer.{findings}
use Rattle.noc_requests.specs.Asked.{lent_files}
use Rattle.noc_requests.specs.Drain.{RunsTo}
use Rattle.noc_requests.specs.Ending.{at_fault}
use Rattle.noc_requests.specs.Run.{cycles_asked, runs_until_out}
use Rattle.noc_requests.proofs.EndingLemmas.{answered}
use Rattle.noc_answers.proofs.OptionLemmas.{explained-cycle, explained-router}
use Rattle.noc_answers.proofs.RequestLemmas.{ran}
use Rattle.noc_answers.proofs.explain.explain.Goals as goal

pub returns-in_err-network : goal.returns-in_err-network
returns-in_err-network g c =
    let p = err_from_is_err_and c.from_residual.result c.from_residual.ensures.1 in
    rw (p.1, p.2) (at_fault refl c.in_err-network.ensures.fault)

pub overflow_add-cycle : goal.overflow_add-cycle
overflow_add-cycle g c =
    let opened = c.in_ok-network.ensures in
    omega (arith, explained-cycle (lent_files c.args.files.now) _ opened.network.0 c.args.cycle c.args.router c.requires, opened.network.1, opened.cycles)

pub run-requires : goal.run-requires
run-requires g c =
    let opened = c.in_ok-network.ensures in
    omega (arith, explained-cycle (lent_files c.args.files.now) _ opened.network.0 c.args.cycle c.args.router c.requires, opened.network.1, opened.cycles, opened.opening)

pub write_findings-requires : goal.write_findings-requires
write_findings-requires g c =
    let router = explained-router (lent_files c.args.files.now) _ c.in_ok-network.ensures.network.0 c.args.cycle c.args.router c.requires in
    rw c.run.ensures.value router

pub returns : goal.returns
returns g c =
    let a = lent_files c.args.files.now in
    let opens = c.in_ok-network.ensures.network.0 in
    let zero = c.in_ok-network.ensures.opening in
    let added : c.run.new.self.count ≡ c.in_ok-network.network.count + (c.args.cycle + 1) = ap (λ (u : Run). u.count) c.run.ensures.value in
    let count : c.run.new.self.count ≡ c.args.cycle + 1 = omega (arith, added, zero) in
    let ends = subst (λ x. RunsTo (runs_until_out x) c.in_ok-network.network.net (cycles_asked x opens.settings) c.run.new.self.count) (sym c.requires) count in
    let asks = ran a c.in_ok-network.network c.run.new.self opens (ap (λ (u : Run). u.net) c.run.ensures.value) ends in
    answered g.W.Sink.contents g.W.Sink.has_failed c.args.sink.now c.write_findings.new.sink a _ _ c.write_findings.result c.ended.result
    (findings c.requires asks) c.write_findings.ensures c.ended.ensures
