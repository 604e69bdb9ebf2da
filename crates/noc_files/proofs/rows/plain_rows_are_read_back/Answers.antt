use Rattle.noc_files.proofs.PlainLemmas.{plain_rows}
use Rattle.noc_files.proofs.rows.plain_rows_are_read_back.Goals as goal

pub returns : goal.returns
returns c rows h = plain_rows rows h
