use Rattle.std.proofs.Common.{[], arith}
use Rattle.csv.specs.Records.{fields_of}
use Rattle.noc_files.proofs.NameLemmas.{field_there, name_goes, name_stops}
use Rattle.noc_files.proofs.rows.has_fields.Goals as goal

pub returns-in_default : goal.returns-in_default
returns-in_default c = absurd (field_there (fields_of c.args.row.now) c.loop-i.i (omega (arith, c.len.ensures, c.if-len-names.false)) (rw c.in_default.is at c.get.ensures.value))

pub returns-then-ne : goal.returns-then-ne
returns-then-ne c =
    let at = rw c.in-Some.is at c.get.ensures.value in
    name_stops (fields_of c.args.row.now) c.args.names.now c.loop-i.i (record { ref_ptr = (0, 0); now = [] }) c.in-Some.field.now c.as_bytes.result.now _ c.ne.result c.loop-i-test.true at c.as_bytes.ensures.value c.ne.ensures c.if-ne.true c.loop-i.invariant

pub loop-i-preserved : goal.loop-i-preserved
loop-i-preserved c =
    let at = rw c.in-Some.is at c.get.ensures.value in
    name_goes (fields_of c.args.row.now) c.args.names.now c.loop-i.i (record { ref_ptr = (0, 0); now = [] }) c.in-Some.field.now c.as_bytes.result.now _ c.ne.result c.loop-i-test.true at c.as_bytes.ensures.value c.ne.ensures c.if-ne.false c.loop-i.invariant
