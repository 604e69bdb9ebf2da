-- The latest of the last events of some routers.
use Rattle.std.specs.Prelude.{ℕ, List, fold, Option, Some, None, nat_lt, if◌then◌else◌}
use Rattle.noc_view.specs.View.{View}

-- the later of two cycles, where there are any
abbrev pub later_of : Option ℕ → Option ℕ → Option ℕ
later_of None b = b
later_of (Some a) None = Some a
later_of (Some a) (Some b) = if nat_lt a b then Some b else Some a

-- the latest last event of some routers
abbrev pub latest_of : List View → Option ℕ
latest_of views = fold (λ (last : Option ℕ) (v : View). later_of last v.last_event) None views
