use Rattle.std.proofs.Common.{◌≡◌, ◌∙◌, List, length, ap, arith, subst, sym}
use Rattle.std.specs.Prelude.{slice_get}
use Rattle.std.specs.Vec.{with_items}
use Rattle.std.proofs.lemmas.Bool.{eqb-false, eqb-true}
use Rattle.std.proofs.lemmas.List.{with_items_is}
use Rattle.noc_counts.specs.declared.counts.Counts.{Counts}
use Rattle.noc_cycles.specs.declared.block.Block.{Block}
use Rattle.noc_engine.specs.Origins.{net_in}
use Rattle.noc_engine.specs.Runs.{IsNextDue}
use Rattle.noc_engine.proofs.WaitLemmas.{none-follow, shows-is, waits}
use Rattle.noc_engine.proofs.columns.Columns.wait.Goals as goal

pub overflow_add-self : goal.overflow_add-self
overflow_add-self c =
    let all = c.args.self.now in
    let just = c.requires.1 in
    omega (arith, just.within, (shows-is (net_in all.origin) c.requires.0 c.args.most all just).tile.cycle, c.min-times.ensures)

pub returns-then-is_busy-clause-shows : goal.returns-then-is_busy-clause-shows
returns-then-is_busy-clause-shows c =
    let all = c.args.self.now in
    let just = c.requires.1 in
    none-follow (net_in all.origin) c.requires.0 c.args.most all just

pub returns-clause-shows : goal.returns-clause-shows
returns-clause-shows c =
    let all = c.args.self.now in
    let just = c.requires.1 in
    let times = c.min-times.result in
    let next = c.next_due-due.result in
    let new : (with_items all.tile.counts c.repeat_all.new.counts).items ≡ c.repeat_all.new.counts = with_items_is all.tile.counts c.repeat_all.new.counts (c.repeat_all.auto.counts ∙ ap length c.as_mut_slice.ensures.value ∙ sym all.tile.counts.ok.0) in
    waits (net_in all.origin) c.requires.0 c.args.most all just times next (omega (arith, c.min-times.ensures)) (eqb-false _ _ (sym c.is_busy.ensures ∙ c.if-is_busy.false))
    (subst (λ (xs : List Block). IsNextDue xs next) c.deref.ensures.value c.next_due-due.ensures) (omega (arith, c.min-times.ensures, c.saturating_sub.ensures))
    (with_items all.tile.counts c.repeat_all.new.counts) (ap length new ∙ c.repeat_all.auto.counts ∙ ap length c.as_mut_slice.ensures.value)
    (λ b one two was is. c.repeat_all.ensures b one two (ap (λ (xs : List Counts). slice_get xs b) c.as_mut_slice.ensures.value ∙ was) (ap (λ (xs : List Counts). slice_get xs b) (sym new) ∙ is))

pub returns-then-is_busy-clause-jumps : goal.returns-then-is_busy-clause-jumps
returns-then-is_busy-clause-jumps c = λ quiet. absurd (quiet (eqb-true _ _ (sym c.is_busy.ensures ∙ c.if-is_busy.true)))

pub returns-clause-jumps : goal.returns-clause-jumps
returns-clause-jumps c = λ quiet.
    (c.next_due-due.result, subst (λ (xs : List Block). IsNextDue xs c.next_due-due.result) c.deref.ensures.value c.next_due-due.ensures, omega (arith, c.min-times.ensures, c.saturating_sub.ensures))
