use Rattle.noc_files.proofs.RankListingLemmas.{all_lines}
use Rattle.noc_files.proofs.ranks.write_ranks.Goals as goal

pub returns : goal.returns
returns g c = rw (all_lines c.args.ranks.now) c.write_lines.ensures
