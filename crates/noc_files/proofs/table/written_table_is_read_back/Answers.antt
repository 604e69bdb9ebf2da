use Rattle.noc_files.proofs.TableLemmas.{table_back}
use Rattle.noc_files.proofs.table.written_table_is_read_back.Goals as goal

pub returns : goal.returns
returns c g grid rows h = table_back g grid rows h
