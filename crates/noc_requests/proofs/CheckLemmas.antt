-- The fault of ranks that a command checks.
use Rattle.std.proofs.Common.{◌≡◌, Option, Some, None}
use Rattle.std.specs.Option.{IsSomeAnd}
use Rattle.noc_files.specs.Configuration.{Settings}
use Rattle.noc_route.specs.Routes.{Routes}
use Rattle.noc_faults.specs.declared.fault.Fault.{Fault}
use Rattle.noc_requests.specs.Answer.{TextsFault, in_ranks}
use Rattle.noc_requests.specs.Asked.{Asked, TextValue}
use Rattle.noc_requests.specs.Check.{RanksFault, checked_ranks}
use Rattle.noc_requests.specs.Settings.{AsksForRelation}

-- the fault of ranks that are checked
pub in_checked_ranks : (a : Asked) (s : Settings) (routes : Routes) (f : Fault) (ranks : Option TextValue) → AsksForRelation a s routes → checked_ranks a ≡ ranks
    → IsSomeAnd ranks (λ text. RanksFault routes text f) → TextsFault a f
in_checked_ranks a s routes f (Some text) asks checked bad = in_ranks asks checked bad
in_checked_ranks a s routes f None asks checked bad = absurd bad
