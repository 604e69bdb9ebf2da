-- Single steps of a packet by coordinates, and the channels of a class.
use Rattle.std.specs.Prelude.{ℕ, ◌+◌, ◌-◌, ◌*◌, ◌/◌, ◌%◌, Bool, ◌&&◌, ◌||◌, List, Option, nat_eq, nat_lt, nat_le, slice_index, if◌then◌else◌}
use Rattle.noc_topo.specs.Lists.{is_some_of}
use Rattle.noc_topo.specs.Shape.{is_plus}

-- the shorter way is up; where both are equally long, up
abbrev pub goes_up : Bool → ℕ → ℕ → ℕ → Bool
goes_up wraps k x t = if wraps then nat_le ((t + k - x) % k) ((x + k - t) % k) else nat_lt x t

-- down dimension 0 alone while the destination is there, and else any port
abbrev pub is_west_first : List ℕ → List ℕ → ℕ → Bool
is_west_first xs ts port = nat_eq port 1 || nat_le (slice_index xs 0) (slice_index ts 0)

-- the channels of a class
abbrev pub is_of_class : ℕ → ℕ → ℕ → ℕ → Bool
is_of_class vcs classes m v = nat_le (m * vcs / classes) v && nat_lt v ((m + 1) * vcs / classes)

-- the half that the next hop along a port takes, where in its dimension the router is at x and the
-- destination at t: the low half while the way still crosses the ends
abbrev pub dateline_class : ℕ → ℕ → ℕ → ℕ
dateline_class port x t =
    if is_plus port then (if nat_lt t x then 0 else 1) else (if nat_lt x t then 0 else 1)

-- whether an escape channel, by its index among those of its class, is taken along a port, where
-- dimension order leads along another one or this one, from x to t in its dimension
abbrev pub is_escape_by : Bool → Option ℕ → ℕ → ℕ → ℕ → ℕ → Bool
is_escape_by wraps towards port x t index =
    is_some_of towards port && nat_eq index (if wraps then dateline_class port x t else 0)
