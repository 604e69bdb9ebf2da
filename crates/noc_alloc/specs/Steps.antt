-- One step of a pass over requesters, and one of a pass over winners.
use Rattle.std.specs.Prelude.{ℕ, List, Option, Some, None, slice_index_or, slice_set}
use Rattle.noc_alloc.specs.Arbiter.{RoundRobin, arbiter_after, arbiter_at, earlier}

-- each arbiter's first so far, once a later requester has asked for arbiter o, or for none
abbrev pub firsts_after_request : List RoundRobin → Option ℕ → ℕ → List (Option ℕ) → List (Option ℕ)
firsts_after_request arbiters None next held = held
firsts_after_request arbiters (Some o) next held =
    slice_set held o
    (Some (earlier (arbiter_at arbiters o).pointer (slice_index_or held o None) next))

-- the arbiters of the input ports after one output port's winner, if any
abbrev pub arbiters_after_winner : Option ℕ → List (Option ℕ) → List RoundRobin → List RoundRobin
arbiters_after_winner None picks arbiters = arbiters
arbiters_after_winner (Some q) picks arbiters =
    slice_set arbiters q (arbiter_after (arbiter_at arbiters q) (slice_index_or picks q None))
