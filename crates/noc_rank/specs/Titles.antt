-- The number and the name of a fault of ranks (docs/FORMATS.md, "Fault lines").
use Rattle.std.specs.Prelude.{ℕ, List, codes}
use Rattle.noc_rank.specs.declared.fault.RankFault.{RankFault}
use Rattle.noc_rank.specs.declared.fault.RankFault.TheVariants as rank

abbrev pub rank_title : RankFault → List ℕ
rank_title rank.NoGenerated = codes "1 NoGenerated"
rank_title (rank.NotRising entry port vc before after) = codes "2 NotRising"
rank_title (rank.NotRisingTo e o before after) = codes "2 NotRising"
rank_title rank.Memory = codes "3 Memory"
rank_title (rank.NoEscape entry) = codes "4 NoEscape"
rank_title (rank.UnknownChannel row) = codes "5 UnknownChannel"
rank_title (rank.DoubleChannel row) = codes "6 DoubleChannel"
rank_title (rank.MissingChannel router port vc) = codes "7 MissingChannel"
rank_title (rank.BadRank row) = codes "8 BadRank"
