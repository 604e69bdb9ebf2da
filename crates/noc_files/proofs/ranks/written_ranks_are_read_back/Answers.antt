use Rattle.std.proofs.Common.{arith}
use Rattle.noc_files.proofs.ListingLemmas.{ranks_back, ranks_listed}
use Rattle.noc_files.proofs.ranks.written_ranks_are_read_back.Goals as goal

pub returns : goal.returns
returns c k ranking few = (ranks_back k ranking (omega arith), ranks_listed k)
