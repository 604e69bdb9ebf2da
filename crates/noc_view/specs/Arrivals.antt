-- The packets that end at a node, with the cycle in which the tail of each was out.
use Rattle.std.specs.Prelude.{ℕ, Bool, ◌&&◌, List, map, find, Option, Some, option_and_then, is_none, nat_eq, if◌then◌else◌}
use Rattle.std.specs.List.{list_any}

-- whether a packet was built to end here and has not arrived
abbrev pub is_expected_in : ℕ → List (ℕ × Option ℕ) → Bool
is_expected_in p ends = list_any (λ (one : ℕ × Option ℕ). nat_eq one.0 p && is_none one.1) ends

-- a packet has arrived in this cycle
abbrev pub arrivals_after : ℕ → ℕ → List (ℕ × Option ℕ) → List (ℕ × Option ℕ)
arrivals_after p cycle ends =
    map (λ (one : ℕ × Option ℕ). (one.0, if nat_eq one.0 p then Some cycle else one.1)) ends

-- the cycle in which the tail of a packet was out
abbrev pub noted_arrival : ℕ → List (ℕ × Option ℕ) → Option ℕ
noted_arrival p ends =
    option_and_then (λ (one : ℕ × Option ℕ). one.1)
    (find (λ (one : ℕ × Option ℕ). nat_eq one.0 p) ends)
