use Rattle.std.proofs.Common.{◌≡◌, ◌<◌, ◌∙◌, List, ℕ, [], Err, ap, arith, length, subst}
use Rattle.std.proofs.KnownBytes.{Appends-nil}
use Rattle.std.specs.Io.KnownBytes.{Appends}
use Rattle.noc_files.specs.Writing.{Wrote}
use Rattle.noc_files.proofs.BelowLemmas.{fault_at_number, long_more, took_more}
use Rattle.noc_files.proofs.PageLemmas.{added_none}
use Rattle.noc_files.proofs.pages.put_pages.Goals as goal

pub loop-number-init : goal.loop-number-init
loop-number-init g c =
    let at = g.W.Sink.contents c.args.sink.now in
    let none = added_none (g.P.Pages.text c.args.pages.now) [] in
    record { took = subst (Appends at at) none (Appends-nil at); counted = ap length none; short = omega arith }

pub returns-in-Err-clause-puts : goal.returns-in-Err-clause-puts
returns-in-Err-clause-puts g c =
    let w = g.W.Sink in
    let pages = c.args.pages.now in
    let n = c.loop-number.number in
    let before = c.loop-number.sink in
    let now = c.put_all.new.sink in
    let known : n < g.P.Pages.pages pages = omega (arith, c.loop-number-test.true, c.pages-number-end.ensures.value) in
    let page : Wrote w.contents w.has_failed before now (g.P.Pages.text pages n) (Err c.in-Err.fault) =
    subst (λ (t : List ℕ). Wrote w.contents w.has_failed before now t (Err c.in-Err.fault)) (c.text-text.ensures.value ∙ c.fill.ensures) c.in-Err.ensures in
    fault_at_number (g.P.Pages.text pages) [] w.contents w.has_failed n (g.P.Pages.pages pages) c.loop-number.written c.args.sink.now before now c.in-Err.fault c.after.result known c.loop-number.invariant.took
    c.loop-number.invariant.counted page c.after.ensures

pub loop-number-preserved : goal.loop-number-preserved
loop-number-preserved g c =
    let w = g.W.Sink in
    let text = g.P.Pages.text c.args.pages.now in
    let n = c.loop-number.number in
    let so_far = c.loop-number.invariant in
    let is : c.text-text.result.now ≡ text n = c.text-text.ensures.value ∙ c.fill.ensures in
    let page = subst (Appends (w.contents c.loop-number.sink) (w.contents c.put_all.new.sink)) is c.in_default.ensures in
    record {
      took = took_more text [] w.contents w.has_failed n c.args.sink.now c.loop-number.sink c.put_all.new.sink so_far.took page;
      counted = long_more text [] n c.loop-number.written (length c.text-text.result.now) so_far.counted (ap length is);
      short = omega (arith, so_far.short, c.text-text.ensures.short, ap length c.text-text.ensures.value);
    }
