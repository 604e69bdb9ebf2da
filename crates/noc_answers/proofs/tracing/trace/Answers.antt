use Rattle.std.proofs.Common.{◌≡◌, ◌+◌, ◌-◌, ap, ap₂, arith, length, None, refl, subst, sym}
use Rattle.std.proofs.lemmas.Result.{err_from_is_err_and}
use Rattle.noc_theory.specs.Network.{Run, Setup}
use Rattle.noc_files.specs.Trace.{trace_text}
use Rattle.noc_files.specs.Writing.{Wrote}
use Rattle.noc_requests.specs.Asked.{lent_files}
use Rattle.noc_requests.specs.Options.{first_cycle, last_cycle, packet_option_fault}
use Rattle.noc_requests.specs.Answer.{runs, traces}
use Rattle.noc_requests.specs.Drain.{RunsTo}
use Rattle.noc_requests.specs.Ending.{at_fault}
use Rattle.noc_requests.specs.Run.{cycles_asked, runs_until_out}
use Rattle.noc_requests.proofs.EndingLemmas.{answered}
use Rattle.noc_answers.proofs.OptionLemmas.{traced-router, traced-span}
use Rattle.noc_answers.proofs.RequestLemmas.{ran}
use Rattle.noc_answers.proofs.tracing.trace.Goals as goal

pub trace_for-requires : goal.trace_for-requires
trace_for-requires g c = record { opens = c.in_ok-network.ensures.network.0; runs = ap runs c.requires }

pub returns-in_err-network : goal.returns-in_err-network
returns-in_err-network g c =
    let p = err_from_is_err_and c.from_residual.result c.from_residual.ensures.1 in
    rw (p.1, p.2) (at_fault refl c.in_err-network.ensures.fault)

pub returns-in_err-trace : goal.returns-in_err-trace
returns-in_err-trace g c =
    let p = err_from_is_err_and c.from_residual-in_err-trace.result c.from_residual-in_err-trace.ensures.1 in
    rw (p.1, p.2) (at_fault refl c.in_err-trace.ensures.fault)

pub overflow_add-end : goal.overflow_add-end
overflow_add-end g c =
    let opened = c.in_ok-network.ensures in
    let l = traced-span (lent_files c.args.files.now) _ opened.network.0 c.args.span.from c.args.span.to c.args.traced c.in_ok-network.cycles c.requires opened.network.1 in
    omega (arith, l.inside, c.last_cycle-end.ensures, opened.cycles)

pub overflow_sub-count : goal.overflow_sub-count
overflow_sub-count g c =
    let opened = c.in_ok-network.ensures in
    let l = traced-span (lent_files c.args.files.now) _ opened.network.0 c.args.span.from c.args.span.to c.args.traced c.in_ok-network.cycles c.requires opened.network.1 in
    omega (arith, l.order, c.last_cycle-end.ensures, c.unwrap_or-first.ensures)

pub run-requires : goal.run-requires
run-requires g c =
    let opened = c.in_ok-network.ensures in
    let l = traced-span (lent_files c.args.files.now) _ opened.network.0 c.args.span.from c.args.span.to c.args.traced c.in_ok-network.cycles c.requires opened.network.1 in
    omega (arith, l.order, l.inside, c.unwrap_or-first.ensures, opened.opening, opened.cycles)

pub write_trace-requires-clause-cycles : goal.write_trace-requires-clause-cycles
write_trace-requires-clause-cycles g c =
    let opened = c.in_ok-network.ensures in
    let l = traced-span (lent_files c.args.files.now) _ opened.network.0 c.args.span.from c.args.span.to c.args.traced c.in_ok-network.cycles c.requires opened.network.1 in
    let count : c.run.new.self.count ≡ c.in_ok-network.network.count + c.unwrap_or-first.result = ap (λ (u : Run). u.count) c.run.ensures.value in
    omega (arith, l.order, l.inside, count, c.unwrap_or-first.ensures, c.last_cycle-end.ensures, opened.opening, opened.cycles)

pub write_trace-requires-clause-router : goal.write_trace-requires-clause-router
write_trace-requires-clause-router g c =
    rw (c.in_ok-trace.ensures.trace, c.run.ensures.value)
    (traced-router (lent_files c.args.files.now) _ c.in_ok-network.ensures.network.0 c.args.span.from c.args.span.to c.args.traced c.requires)

pub write_trace-requires-clause-opening : goal.write_trace-requires-clause-opening
write_trace-requires-clause-opening g c = rw (c.in_ok-trace.ensures.trace, c.run.ensures.value) refl

pub returns : goal.returns
returns g c =
    let a = lent_files c.args.files.now in
    let before = c.in_ok-network.network in
    let opened = c.in_ok-network.ensures in
    let opens = opened.network.0 in
    let u = c.run.new.self in
    let run : Run = record u { count = u.count + (c.last_cycle-end.result + 1 - c.unwrap_or-first.result) } in
    let l = traced-span a _ opens c.args.span.from c.args.span.to c.args.traced c.in_ok-network.cycles c.requires opened.network.1 in
    let same : u.net ≡ before.net = ap (λ (x : Run). x.net) c.run.ensures.value in
    let count : u.count ≡ before.count + c.unwrap_or-first.result = ap (λ (x : Run). x.count) c.run.ensures.value in
    let first : u.count ≡ first_cycle c.args.span.from = omega (arith, count, opened.opening, c.unwrap_or-first.ensures) in
    let last : run.count ≡ last_cycle c.args.span.to c.in_ok-network.cycles + 1 = omega (arith, l.order, count, opened.opening, c.unwrap_or-first.ensures, c.last_cycle-end.ensures) in
    let end = subst (λ n. run.count ≡ last_cycle c.args.span.to n + 1) opened.network.1 last in
    let ends = subst (λ x. RunsTo (runs_until_out x) before.net (cycles_asked x opens.settings) run.count) (sym c.requires) end in
    let packet = subst (λ (n : Setup). packet_option_fault a.command (length n.packets) ≡ None) (sym same) c.in_ok-trace.ensures.packet in
    let kept = ap (λ t. t.0) c.in_ok-trace.ensures.trace in
    let text = ap₂ (trace_text run) first kept in
    answered g.W.Sink.contents g.W.Sink.has_failed c.args.sink.now c.write_trace.new.sink a _ _ c.write_trace.result c.ended.result (traces c.requires (ran a before run opens same ends) packet)
    (subst (λ t. Wrote g.W.Sink.contents g.W.Sink.has_failed c.args.sink.now c.write_trace.new.sink t c.write_trace.result) text c.write_trace.ensures.text) c.ended.ensures
