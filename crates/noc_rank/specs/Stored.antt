-- How ranks are stored.
use Rattle.noc_rank.specs.declared.ranks.Ranks.TheInside.{Inside}
use Rattle.noc_route.specs.Ranks.{Ranking}

abbrev pub ranking_of : Inside → Ranking
ranking_of s = record { grid = s.shape; vcs = s.vcs; ranks = s.ranks.items }
