-- The allocation of output channels and of the switch of one router, on lists
-- of requests and pointers.
use Rattle.std.specs.Prelude.{◌≡◌, ℕ, length, ◌+◌, ◌*◌, Bool, false, ◌||◌, List, [], ◌∷◌, Option, Some, None, slice_index, slice_index_or, is_some, option_and_then, if◌then◌else◌}
use Rattle.noc_topo.specs.Lists.{is_some_of, tabulate, map_indexed}
use Rattle.noc_alloc.specs.Arbiter.{RoundRobin, first_in_turn, arbiter_after}

-- asks: for each input channel, the output channel that it asks for. The input channel that
-- output channel o goes to
abbrev pub grant_of : List (Option ℕ) → ℕ → List ℕ → ℕ → Option ℕ
grant_of asks size pointers o =
    first_in_turn size (slice_index pointers o) (λ i. is_some_of (slice_index_or asks i None) o)

-- ready: for each input channel that is ready, the output port of its output channel. The vc
-- that an input port picks
abbrev pub pick_of : List (Option ℕ) → ℕ → List ℕ → ℕ → Option ℕ
pick_of ready vcs pointers port =
    first_in_turn vcs (slice_index pointers port)
    (λ v. is_some (slice_index_or ready (port * vcs + v) None))

-- the output port to which an input port's pick goes
abbrev pub picked_port : List (Option ℕ) → ℕ → List (Option ℕ) → ℕ → Option ℕ
picked_port ready vcs picks port =
    option_and_then (λ v. slice_index_or ready (port * vcs + v) None)
    (slice_index_or picks port None)

-- the input port that wins an output port
abbrev pub winner_of : List (Option ℕ) → ℕ → ℕ → List (Option ℕ) → List ℕ → ℕ → Option ℕ
winner_of ready vcs ports picks pointers port =
    first_in_turn ports (slice_index pointers port)
    (λ q. is_some_of (picked_port ready vcs picks q) port)

-- whether these are the winners of all output ports
abbrev pub AreWins : List (Option ℕ) → ℕ → ℕ → List ℕ → List (Option ℕ) → List (Option ℕ) → Type 0
AreWins ready vcs ports pointers picks wins =
    wins ≡ tabulate (length wins) (winner_of ready vcs ports picks pointers)

-- whether an input port wins one of these output ports
abbrev pub has_won : List (Option ℕ) → ℕ → Bool
has_won [] port = false
has_won (win ∷ wins) port = is_some_of win port || has_won wins port

-- the vc of an input port whose pick also won its output port
abbrev pub winning_pick : List (Option ℕ) → List (Option ℕ) → ℕ → Option ℕ
winning_pick picks wins port = if has_won wins port then slice_index_or picks port None else None

-- whether the output port, if there is one, is won by this input port
abbrev pub is_won_by : List (Option ℕ) → ℕ → Option ℕ → Bool
is_won_by wins port None = false
is_won_by wins port (Some o) = is_some_of (slice_index_or wins o None) port

-- whether the pick of an input port won the output port that it goes to
abbrev pub pick_won : List (Option ℕ) → ℕ → List (Option ℕ) → List (Option ℕ) → ℕ → Bool
pick_won ready vcs picks wins port = is_won_by wins port (picked_port ready vcs picks port)

-- the same, by the requests: the vc of an input port whose pick won the output port that it goes to
abbrev pub moving_pick : List (Option ℕ) → ℕ → List (Option ℕ) → List (Option ℕ) → ℕ → Option ℕ
moving_pick ready vcs picks wins port =
    if pick_won ready vcs picks wins port then slice_index_or picks port None else None

-- each arbiter after its winner
abbrev pub arbiters_after_winners : (ℕ → Option ℕ) → List RoundRobin → List RoundRobin
arbiters_after_winners winner arbiters =
    map_indexed (λ i (t : RoundRobin). arbiter_after t (winner i)) arbiters
