use Rattle.noc_files.proofs.RankFaultLemmas.{fault_rank_file, rank_file_fault}
use Rattle.noc_files.proofs.RankLemmas.{is_rank_file, rank_file_is}
use Rattle.noc_files.proofs.ranks.rank_file_is_read_exactly.Goals as goal

pub returns : goal.returns
returns c g grid = record {
  reads = λ text rows. (rank_file_is g grid text rows, is_rank_file g grid text rows);
  refuses = λ text fault. (rank_file_fault g grid text fault, fault_rank_file g grid text fault);
}
