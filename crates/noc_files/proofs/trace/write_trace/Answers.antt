use Rattle.std.proofs.Common.{◌≡◌, ◌∙◌, ◌<◌, ◌≤◌, ◌+◌, ◌-◌, ◌++◌, ℕ, List, Err, Some, ap, ap₂, arith, flat_map, length, refl, subst, sym}
use Rattle.std.specs.Prelude.{slice_get}
use Rattle.std.specs.Io.KnownBytes.{Appends}
use Rattle.std.specs.Option.{IfSome}
use Rattle.std.proofs.lemmas.Result.{err_from_is_err_and}
use Rattle.noc_topo.specs.Lists.{below}
use Rattle.noc_topo.specs.Shape.{nodes}
use Rattle.noc_theory.specs.Lockstep.{findings_before}
use Rattle.noc_theory.specs.Network.{Run, Setup, size}
use Rattle.noc_files.specs.Trace.{HaveChannels, cycle_text, trace_header}
use Rattle.noc_files.specs.Writing.{Wrote}
use Rattle.noc_files.proofs.BelowLemmas.{fault_at_number, long_more, took_more}
use Rattle.noc_files.proofs.CutOffLemmas.{cut_in_cycle, cut_in_header}
use Rattle.noc_files.proofs.PageLemmas.{added_none}
use Rattle.noc_bytes.proofs.SinkLemmas.{Appends-keeps, fault_front}
use Rattle.noc_files.proofs.TraceCycleLemmas.{IsKept, cycle_written, few_kept, next_kept, opening_kept}
use Rattle.noc_files.specs.declared.trace.Traced.{Traced}
use Rattle.noc_files.proofs.trace.write_trace.Goals as goal

pub returns-in_err-put_all-clause-text : goal.returns-in_err-put_all-clause-text
unfolding trace_header
returns-in_err-put_all-clause-text g c =
    let p = err_from_is_err_and c.from_residual.result c.from_residual.ensures.1 in
    let w = g.W.Sink in
    let u = c.args.network.now in
    let e = c.in_err-put_all.field-0.0 in
    let header : Wrote w.contents w.has_failed c.args.sink.now c.put_all.new.sink trace_header (Err e) = rw c.as_bytes.ensures.value at c.in_err-put_all.ensures in
    rw (p.1, p.2) (fault_front w.contents w.has_failed c.args.sink.now c.put_all.new.sink trace_header (flat_map (λ (k : ℕ). cycle_text u.net c.args.trace.0 u.count (u.count + k)) (below (u.count + c.args.cycles - u.count))) e header)

pub returns-in_err-put_all-clause-cut : goal.returns-in_err-put_all-clause-cut
unfolding trace_header
returns-in_err-put_all-clause-cut g c =
    let p = err_from_is_err_and c.from_residual.result c.from_residual.ensures.1 in
    let w = g.W.Sink in
    let e = c.in_err-put_all.field-0.0 in
    let header : Wrote w.contents w.has_failed c.args.sink.now c.put_all.new.sink trace_header (Err e) = rw c.as_bytes.ensures.value at c.in_err-put_all.ensures in
    rw (p.1, p.2) (cut_in_header c.args.network.now c.args.trace.0 e.written header.0)

pub loop-init : goal.loop-init
unfolding trace_header
loop-init g c =
    let w = g.W.Sink in
    let net = c.args.network.now.net in
    let traced = c.args.trace.0 in
    let first = c.args.network.now.count in
    let none : first ≡ first + 0 = omega arith in
    let text = added_none (λ (k : ℕ). cycle_text net traced first (first + k)) trace_header in
    let header : Appends (w.contents c.args.sink.now) (w.contents c.put_all.new.sink) trace_header = rw c.as_bytes.ensures.value at c.in_ok-put_all.ensures in
    record {
      net = refl;
      count = none;
      traced = refl;
      kept = subst (λ n. IsKept net traced first n c.args.trace.1) none (opening_kept net traced first c.args.trace.1 c.requires.opening);
      took = subst (Appends (w.contents c.args.sink.now) (w.contents c.put_all.new.sink)) text header;
      counted = ap length text;
      short = omega arith;
    }

pub put_cycle-requires-clause-router : goal.put_cycle-requires-clause-router
put_cycle-requires-clause-router g c =
    let same : c.cycle.new.self.net ≡ c.args.network.now.net = ap (λ (u : Run). u.net) c.cycle.ensures.value ∙ c.loop.invariant.net in
    let there = subst (λ (z : Setup). IfSome c.args.trace.0.router (λ router. router < nodes z.relation.grid)) (sym same) c.requires.router in
    subst (λ (t : Traced). IfSome t.router (λ router. router < nodes c.cycle.new.self.net.relation.grid)) (sym c.loop.invariant.traced) there

pub keep-requires-clause-few : goal.keep-requires-clause-few
keep-requires-clause-few g c =
    let same : c.cycle.new.self.net ≡ c.args.network.now.net = ap (λ (u : Run). u.net) c.cycle.ensures.value ∙ c.loop.invariant.net in
    let first = c.args.network.now.count in
    subst (λ (z : Setup). length c.loop.trace.1 ≤ nodes z.relation.grid) (sym same)
    (few_kept c.args.network.now.net c.args.trace.0 first (first + c.loop.counter) c.loop.trace.1 c.loop.invariant.kept)

pub keep-requires-clause-long : goal.keep-requires-clause-long
keep-requires-clause-long g c =
    let same : c.cycle.new.self.net ≡ c.args.network.now.net = ap (λ (u : Run). u.net) c.cycle.ensures.value ∙ c.loop.invariant.net in
    subst (λ (z : Setup). HaveChannels (size z) c.loop.trace.1) (sym same) c.loop.invariant.kept.long

pub after-requires : goal.after-requires
after-requires g c = omega (arith, c.loop.invariant.short, c.in-Err.ensures.few, c.loop-test.true, c.requires.cycles)

pub overflow_add-written : goal.overflow_add-written
overflow_add-written g c = omega (arith, c.loop.invariant.short, c.in-Ok.ensures.few, c.loop-test.true, c.requires.cycles)

pub returns-in-Err-clause-text : goal.returns-in-Err-clause-text
returns-in-Err-clause-text g c =
    let w = g.W.Sink in
    let net = c.args.network.now.net in
    let traced = c.args.trace.0 in
    let first = c.args.network.now.count in
    let inv = c.loop.invariant in
    let step = c.loop.counter in
    let same : c.cycle.new.self.net ≡ net = ap (λ (u : Run). u.net) c.cycle.ensures.value ∙ inv.net in
    let more : c.cycle.new.self.count ≡ c.loop.network.count + 1 = ap (λ (u : Run). u.count) c.cycle.ensures.value in
    let so_far : c.loop.network.count ≡ first + step = inv.count in
    let at : c.cycle.new.self.count - 1 ≡ first + step = omega (arith, more, so_far) in
    let is = cycle_written c.cycle.new.self net c.loop.trace.0 traced c.loop.trace.1 first (first + step) (c.cycle.new.self.count - 1) same inv.traced at (omega (arith, more, so_far)) inv.kept c.requires.router in
    let inside : step < first + c.args.cycles - first = omega (arith, c.loop-test.true) in
    let e = c.in-Err.fault in
    let next = subst (λ (t : List ℕ). Wrote w.contents w.has_failed c.loop.sink c.put_cycle.new.sink t (Err e)) is c.in-Err.ensures.puts in
    fault_at_number (λ (k : ℕ). cycle_text net traced first (first + k)) trace_header w.contents w.has_failed step (first + c.args.cycles - first) c.loop.written c.args.sink.now c.loop.sink c.put_cycle.new.sink e c.after.result inside inv.took inv.counted next c.after.ensures

pub returns-in-Err-clause-cut : goal.returns-in-Err-clause-cut
returns-in-Err-clause-cut g c =
    let w = g.W.Sink in
    let net = c.args.network.now.net in
    let traced = c.args.trace.0 in
    let first = c.args.network.now.count in
    let inv = c.loop.invariant in
    let step = c.loop.counter in
    let same : c.cycle.new.self.net ≡ net = ap (λ (u : Run). u.net) c.cycle.ensures.value ∙ inv.net in
    let more : c.cycle.new.self.count ≡ c.loop.network.count + 1 = ap (λ (u : Run). u.count) c.cycle.ensures.value in
    let so_far : c.loop.network.count ≡ first + step = inv.count in
    let at : c.cycle.new.self.count - 1 ≡ first + step = omega (arith, more, so_far) in
    let is = cycle_written c.cycle.new.self net c.loop.trace.0 traced c.loop.trace.1 first (first + step) (c.cycle.new.self.count - 1) same inv.traced at (omega (arith, more, so_far)) inv.kept c.requires.router in
    let e = c.in-Err.fault in
    let next = subst (λ (t : List ℕ). Wrote w.contents w.has_failed c.loop.sink c.put_cycle.new.sink t (Err e)) is c.in-Err.ensures.puts in
    cut_in_cycle c.args.network.now traced c.cycle.new.self c.after.result.written c.loop.written e.written step same (omega (arith, more, so_far)) inv.counted next.0 c.after.ensures

pub loop-preserved : goal.loop-preserved
loop-preserved g c =
    let w = g.W.Sink in
    let net = c.args.network.now.net in
    let traced = c.args.trace.0 in
    let first = c.args.network.now.count in
    let inv = c.loop.invariant in
    let step = c.loop.counter in
    let text : ℕ → List ℕ = λ k. cycle_text net traced first (first + k) in
    let same : c.cycle.new.self.net ≡ net = ap (λ (u : Run). u.net) c.cycle.ensures.value ∙ inv.net in
    let more : c.cycle.new.self.count ≡ c.loop.network.count + 1 = ap (λ (u : Run). u.count) c.cycle.ensures.value in
    let so_far : c.loop.network.count ≡ first + step = inv.count in
    let count : c.cycle.new.self.count ≡ first + step + 1 = omega (arith, more, so_far) in
    let at : c.cycle.new.self.count - 1 ≡ first + step = omega (arith, more, so_far) in
    let is = cycle_written c.cycle.new.self net c.loop.trace.0 traced c.loop.trace.1 first (first + step) (c.cycle.new.self.count - 1) same inv.traced at count inv.kept c.requires.router in
    let put = subst (Appends (w.contents c.loop.sink) (w.contents c.put_cycle.new.sink)) is c.in-Ok.ensures.puts.1 in
    let handed = Appends-keeps (w.contents c.loop.sink) (w.contents c.put_cycle.new.sink) (w.contents c.hand_on.new.self) (text step) put c.hand_on.ensures.bytes in
    let begun : first ≤ first + step = omega arith in
    let later : first + step + 1 ≡ first + (step + 1) = omega arith in
    let found : (r : ℕ) → r < length c.loop.trace.1 → slice_get c.keep.new.self.1 r ≡ Some (findings_before net (first + step + 1) r) = λ r l. c.keep.ensures.found r l ∙ ap Some (ap₂ (λ (z : Setup) k. findings_before z k r) same count) in
    record {
      net = same;
      count = omega (arith, count);
      traced = c.keep.ensures.traced ∙ inv.traced;
      kept = subst (λ n. IsKept net traced first n c.keep.new.self.1) later (next_kept net traced first (first + step) c.loop.trace.1 c.keep.new.self.1 begun inv.kept c.keep.ensures.many found);
      took = took_more text trace_header w.contents w.has_failed step c.args.sink.now c.loop.sink c.hand_on.new.self inv.took handed;
      counted = long_more text trace_header step c.loop.written c.in-Ok.more inv.counted (c.in-Ok.ensures.puts.0 ∙ ap length is);
      short = omega (arith, c.in-Ok.ensures.few, inv.short);
    }

pub returns-clause-text : goal.returns-clause-text
returns-clause-text g c =
    let w = g.W.Sink in
    let u = c.args.network.now in
    let text : ℕ → List ℕ = λ cycles. trace_header ++ flat_map (λ (k : ℕ). cycle_text u.net c.args.trace.0 u.count (u.count + k)) (below cycles) in
    let span : c.loop.counter ≡ u.count + c.args.cycles - u.count = omega (arith, c.loop-test.false) in
    subst (λ cycles. Appends (w.contents c.args.sink.now) (w.contents c.loop.sink) (text cycles)) span c.loop.invariant.took
