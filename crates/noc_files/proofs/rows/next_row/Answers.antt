use Rattle.std.proofs.Common.{◌∙◌}
use Rattle.csv.specs.Records.{fields_of}
use Rattle.noc_files.proofs.RowLemmas.{left_row, no_row}
use Rattle.noc_files.proofs.rows.next_row.Goals as goal

pub returns-in-Ok-clause-ready : goal.returns-in-Ok-clause-ready
returns-in-Ok-clause-ready c some =
    let e = c.in-Ok.ensures in
    let r = c.requires in
    let on = e.reads_on some in
    let row = left_row c.args.reader.now c.read_byte_record.new.self (fields_of c.read_byte_record.new.row) r (rw some at (e.reads r.plain r.ready)) in
    record {
      plain = on.1 ∙ r.plain;
      ready = (on.4 r.ready).0;
      config = on.0 ∙ r.config;
      any_length = on.2 ∙ r.any_length;
      between = row.0;
      bytes = row.1;
      source = row.2;
    }

pub returns-in-Ok-clause-row : goal.returns-in-Ok-clause-row
returns-in-Ok-clause-row c some =
    let e = c.in-Ok.ensures in
    let r = c.requires in
    (left_row c.args.reader.now c.read_byte_record.new.self (fields_of c.read_byte_record.new.row) r (rw some at (e.reads r.plain r.ready))).3

pub returns-in-Ok-clause-end : goal.returns-in-Ok-clause-end
returns-in-Ok-clause-end c none =
    let e = c.in-Ok.ensures in
    let r = c.requires in
    no_row c.args.reader.now c.read_byte_record.new.self (fields_of c.read_byte_record.new.row) r (rw none at (e.reads r.plain r.ready))
