use Rattle.std.proofs.Common.{◌≡◌, ◌∙◌, sym, rules, true, map, vec_len}
use Rattle.std.specs.Result.{is_ok}
use Rattle.std.proofs.lemmas.Result.{err_from_is_err_and}
use Rattle.csv.specs.Records.{fields_of}
use Rattle.noc_files.specs.Rows.{rows_left}
use Rattle.noc_files.specs.Sheet.{sheet}
use Rattle.noc_files.proofs.SheetRowLemmas.{goes_on, stops, ends, no_header, wrong_header, under_header}
use Rattle.noc_files.proofs.sheet.read_left.Goals as goal

pub returns-then-not-branch : goal.returns-then-not-branch
returns-then-not-branch g c said reads _ = no_header said (map (λ n. n.now) c.args.header.now) (rows_left c.args.reader.now) (c.in_ok-next_row.ensures.end c.if-not-branch.true)

pub returns-then-not-has_fields : goal.returns-then-not-has_fields
returns-then-not-has_fields g c said reads _ =
    wrong_header said (map (λ n. n.now) c.args.header.now) (rows_left c.args.reader.now) (rows_left c.next_row.new.reader) (fields_of c.next_row.new.row) (c.in_ok-next_row.ensures.row c.if-not-branch.false) (sym c.has_fields.ensures ∙ c.if-not-has_fields.true)

pub rows-init : goal.rows-init
rows-init g c = record {
  ready = c.in_ok-next_row.ensures.ready c.if-not-branch.false;
  so_far = λ said reads. rw (c.requires.empty.0, c.requires.empty.1) (under_header said (map (λ n. n.now) c.args.header.now) (rows_left c.args.reader.now) (rows_left c.next_row.new.reader) (fields_of c.next_row.new.row) (c.in_ok-next_row.ensures.row c.if-not-branch.false) (sym c.has_fields.ensures ∙ c.if-not-has_fields.false));
}

pub returns-in_err-value : goal.returns-in_err-value
returns-in_err-value g c =
    let p = err_from_is_err_and c.from_residual-in_err-value.result c.from_residual-in_err-value.ensures.1 in
    rw (p.1, p.2) (λ said reads _. stops said c.rows.values.items (vec_len c.rows.values) c.len.result (rows_left c.rows.reader) (rows_left c.next_row-in-rows.new.reader) (fields_of c.next_row-in-rows.new.row) c.in_err-value.field-0.0 (sheet said (map (λ n. n.now) c.args.header.now) (rows_left c.args.reader.now)) (c.in_ok-next_row-2.ensures.row c.if-branch.true) (reads _ c.len.result _ (search rules) c.in_err-value.ensures) c.len.ensures (c.rows.invariant.so_far said reads))

pub rows-preserved : goal.rows-preserved
rows-preserved g c =
    let good : is_ok c.push.result ≡ true = search rules in
    let items = rw good at c.push.ensures.items in
    let len = rw good at c.push.ensures.len in
    record {
      ready = c.in_ok-next_row-2.ensures.ready c.if-branch.true;
      so_far = λ said reads. rw (items, len) (goes_on said c.rows.values.items (vec_len c.rows.values) c.len.result (rows_left c.rows.reader) (rows_left c.next_row-in-rows.new.reader) (fields_of c.next_row-in-rows.new.row) c.in_ok-value.value (sheet said (map (λ n. n.now) c.args.header.now) (rows_left c.args.reader.now)) (c.in_ok-next_row-2.ensures.row c.if-branch.true) (reads _ c.len.result _ (search rules) c.in_ok-value.ensures) c.len.ensures (c.rows.invariant.so_far said reads));
    }

pub returns : goal.returns
returns g c said reads = ends said c.rows.values.items (vec_len c.rows.values) (rows_left c.rows.reader) _ (c.in_ok-next_row-2.ensures.end c.if-branch.false) (c.rows.invariant.so_far said reads)
