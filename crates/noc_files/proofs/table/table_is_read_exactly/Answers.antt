use Rattle.noc_files.proofs.TableFaultLemmas.{fault_table, table_fault}
use Rattle.noc_files.proofs.TableLemmas.{is_table, table_is}
use Rattle.noc_files.proofs.table.table_is_read_exactly.Goals as goal

pub returns : goal.returns
returns c g grid = record {
  reads = λ text rows. (table_is g grid text rows, is_table g grid text rows);
  refuses = λ text fault. (table_fault g grid text fault, fault_table g grid text fault);
}
