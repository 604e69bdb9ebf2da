use Rattle.std.proofs.Common.{◌+◌, length, refl, arith}
use Rattle.csv.specs.Reading.{strip_bom}
use Rattle.csv.specs.declared.parser.State.TheVariants as st
use Rattle.noc_files.proofs.RowLemmas.{are_all}
use Rattle.noc_files.proofs.rows.rows_are_records.Goals as goal

pub returns : goal.returns
returns c text = are_all (length (strip_bom text) + 1) st.StartRecord (strip_bom text) refl (omega arith)
