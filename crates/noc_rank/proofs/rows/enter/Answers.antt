use Rattle.std.proofs.Common.{◌≡◌, Some, None, get_or, sym, ◌∙◌}
use Rattle.std.specs.Prelude.{slice_get}
use Rattle.std.proofs.lemmas.Option.{slice_get-get_or}
use Rattle.noc_rank.specs.declared.rows.RankRow.{RankRow}
use Rattle.noc_rank.proofs.RowLemmas.{row_fault-stored, AreEntered-more}
use Rattle.noc_rank.proofs.rows.enter.Goals as goal

pub returns-in-Some-clause-err : goal.returns-in-Some-clause-err
returns-in-Some-clause-err c =
    let rows = c.args.rows.now in
    let n = c.loop-number.number in
    let row : RankRow = get_or rows n (record { router = 0; port = 0; vc = 0; rank = None }) in
    let there : slice_get rows n ≡ Some row = slice_get-get_or rows n (record { router = 0; port = 0; vc = 0; rank = None }) c.loop-number-test.true in
    record {
      number = n;
      row = row;
      there = there;
      faulty = sym (row_fault-stored c.args.shape.now c.args.vcs rows n c.loop-number.ranks c.loop-number.named row c.loop-number.invariant) ∙ sym c.row_fault.ensures ∙ c.in-Some.is;
      first = c.loop-number.invariant.good;
    }

pub loop-number-preserved : goal.loop-number-preserved
loop-number-preserved c =
    let g = c.args.shape.now in
    let rows = c.args.rows.now in
    let n = c.loop-number.number in
    let row : RankRow = get_or rows n (record { router = 0; port = 0; vc = 0; rank = None }) in
    let there : slice_get rows n ≡ Some row = slice_get-get_or rows n (record { router = 0; port = 0; vc = 0; rank = None }) c.loop-number-test.true in
    let none = sym (row_fault-stored g c.args.vcs rows n c.loop-number.ranks c.loop-number.named row c.loop-number.invariant) ∙ sym c.row_fault.ensures ∙ c.in_default.is in
    rw (c.rank_index-index.ensures.value, c.stored.ensures) (AreEntered-more g c.args.vcs rows n c.loop-number.ranks c.loop-number.named row there none c.loop-number.invariant)

pub returns-in-Some-clause-ok : goal.returns-in-Some-clause-ok
returns-in-Some-clause-ok c = tt

pub returns-clause-err : goal.returns-clause-err
returns-clause-err c = tt
