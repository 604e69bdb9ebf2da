use Rattle.std.proofs.Common.{◌+◌, ◌<◌, length, get_or, refl, ◌∙◌, arith, inl, inr}
use Rattle.std.proofs.lemmas.Bool.{cases_eq}
use Rattle.std.proofs.lemmas.List.{get_or-set_other, get_or-set_same, length-set}
use Rattle.noc_files.proofs.summary.add.Goals as goal

pub loop-column-init : goal.loop-column-init
loop-column-init c = record { long = c.told-totals; done = λ k l. absurd (omega (arith, l)); left = λ k l. refl }

pub overflow_add-totals : goal.overflow_add-totals
overflow_add-totals c =
    let column = c.loop-column.column in
    omega (arith, c.loop-column.invariant.left column (omega arith), c.requires column c.loop-column-test.true, c.from.ensures, c.fits-counts column)

pub loop-column-preserved : goal.loop-column-preserved
loop-column-preserved c =
    let xs = c.loop-column.totals in
    let column = c.loop-column.column in
    let new = get_or xs column 0 + c.from.result in
    let inside : column < length xs = omega (arith, c.loop-column.invariant.long, c.loop-column-test.true) in
    let here = get_or-set_same xs column new 0 inside in
    record {
      long = length-set xs column new ∙ c.loop-column.invariant.long;
      done = λ k l.
          elim (cases_eq k column) [
            | inl same ↦ rw same (omega (arith, here, c.loop-column.invariant.left column (omega arith), c.from.ensures))
            | inr other ↦ get_or-set_other xs column k new 0 other ∙ c.loop-column.invariant.done k (omega (arith, l, other))
          ];
      left = λ k l. get_or-set_other xs column k new 0 (λ e. absurd (omega (arith, l, e))) ∙ c.loop-column.invariant.left k (omega (arith, l));
    }

pub returns : goal.returns
returns c = record {
  more = λ k l. c.loop-column.invariant.done k (omega (arith, l, c.loop-column-test.false));
  bound = λ k l. omega (arith, c.fits-counts k);
}
