-- Ranks from a rank file, and the check that they rise along a routing relation.
use Rattle.std.specs.Prelude.{◌≡◌, List, [], Option, Some, None, Ok, unwrap_or}
use Rattle.std.specs.Option.{IfSome}
use Rattle.noc_route.specs.Routes.{Routes}
use Rattle.noc_route.specs.Ranks.{Ranking, IsRankedBy}
use Rattle.noc_rank.specs.Faults.{IsFaultOfCheck}
use Rattle.noc_rank.specs.Rows.{IsRankingOf, IsFaultOfRows}
use Rattle.noc_rank.specs.declared.fault.RankFault.{RankFault}
use Rattle.noc_rank.specs.declared.rows.RankRow.{RankRow}
use Rattle.noc_files.specs.Configuration.{Settings}
use Rattle.noc_files.specs.Ranks.{ranks_of}
use Rattle.noc_bytes.specs.declared.input_fault.InputFault.{InputFault}
use Rattle.noc_requests.specs.Asked.{Asked, IsUnread, TextValue, read_by}
use Rattle.noc_requests.specs.Settings.{AsksForRelation}
use Rattle.noc_faults.specs.declared.fault.Fault.{Fault}
use Rattle.noc_faults.specs.declared.fault.Fault.TheVariants as fault
use Rattle.noc_commands.specs.declared.command.Command.{Command}
use Rattle.noc_commands.specs.declared.command.Command.TheVariants.{Joined, Run, Check}

-- the ranks of a rank file, for the channels of the relation
pub record HasRanking (routes : Routes) (text : TextValue) (ranking : Ranking) : Type 0 where
  pub rows : List RankRow
  pub read : read_by (ranks_of routes.grid) text ≡ Ok rows
  pub given : IsRankingOf routes.grid routes.vcs rows ranking

-- the ranks of a rank file rise along the relation
pub record Accepts (routes : Routes) (text : TextValue) : Type 0 where
  pub ranking : Ranking
  pub ranks : HasRanking routes text ranking
  pub rising : IsRankedBy routes ranking

-- the first fault: the rank file, its rows, the check
pub data RanksFault (routes : Routes) (text : TextValue) : Fault → Type 0 where
  bad_file : {f : InputFault} → IsUnread (ranks_of routes.grid) text f
      → RanksFault routes text (fault.RankFile f)
  bad_rows : {rows : List RankRow} {f : RankFault} → read_by (ranks_of routes.grid) text ≡ Ok rows
      → IsFaultOfRows routes.grid routes.vcs rows f
      → RanksFault routes text (fault.Rank f routes.grid)
  bad_ranks : {ranking : Ranking} {f : RankFault} → HasRanking routes text ranking
      → IsFaultOfCheck routes ranking f → RanksFault routes text (fault.Rank f routes.grid)

-- the ranks that a command checks: those of a run if there are any, and those of `check`, for which
-- a file that is not given counts as empty
abbrev pub checked_by : Command → Option TextValue → Option TextValue
checked_by Joined ranks = ranks
checked_by (Run workers report drain) ranks = ranks
checked_by Check ranks = Some (unwrap_or ranks (Ok []))
checked_by _ ranks = None

abbrev pub checked_ranks : Asked → Option TextValue
checked_ranks a = checked_by a.command a.ranks

-- a relation, and ranks that rise along it where they are to be checked
pub record AsksForChecked (a : Asked) (s : Settings) (routes : Routes) : Type 0 where
  pub relation : AsksForRelation a s routes
  pub accepted : IfSome (checked_ranks a) (Accepts routes)
