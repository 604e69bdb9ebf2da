-- The event core on small networks: which events are permitted, and how far routers get.
use Rattle.std.proofs.Common.{◌≡◌, ℕ, zero, suc, Bool, true, false, List, [], ◌∷◌, ◌++◌, refl, map, length}
use Rattle.noc_view.specs.Verdict.{first_in_turn}
use Rattle.noc_theory.proofs.Common.{flat_map, below, tabulate, map_indexed, least_by, local_port, Setup, opening_state, state_at, view_in, view_at, beats_in, inputs, view_after_take, view_after_takes, view_after_inject, view_round, decisions_of, view_after_commit, local_step, Event, Take, Decide, Put, CoreState, Post, is_ready, happens}
use Rattle.noc_theory.specs.Core.{opening_core, after_events, wire_at}
use Rattle.noc_theory.proofs.runs.NetworkExamples.{one_flit, draining}

-- a core from the opening on; to open it is to open all that a core is computed by
unfoldable pub core_from : Setup → List Event → CoreState
unfolding below tabulate map_indexed least_by inputs first_in_turn view_after_take view_after_takes view_after_inject view_round decisions_of view_after_commit local_step opening_state state_at view_in view_at beats_in opening_core is_ready happens after_events
core_from net events = after_events 1000 events (opening_core (record { net = net; count = 0 }))

-- which of these events are permitted, one after the other
abbrev pub answers : List Event → CoreState → List Bool
answers [] k = []
answers (e ∷ es) k = is_ready 1000 k e ∷ answers es (after_events 1000 (e ∷ []) k)

-- a router that is a cycle ahead of its neighbour waits for it; ports without a link and routers
-- that do not exist are refused
one_flit-answers :
    answers
    (Take 0 0 ∷ Take 0 0 ∷ Decide 1 ∷ Decide 0 ∷ Put 0 0 ∷ Put 0 0 ∷ Take 0 0 ∷ Take 1 1 ∷ Decide 1 ∷ Put 1 1 ∷ Take 0 2 ∷ Take 5 0 ∷ [])
    (core_from one_flit [])
    ≡ true ∷ false ∷ false ∷ true ∷ true ∷ false ∷ false ∷ true ∷ true ∷ true ∷ false ∷ false ∷ []
unfolding one_flit core_from
one_flit-answers = refl

-- a router with two links makes each event once in a cycle, and a put only after it has decided
draining-answers :
    answers
    (Take 1 0 ∷ Decide 1 ∷ Put 1 0 ∷ Take 1 1 ∷ Take 1 0 ∷ Decide 1 ∷ Decide 1 ∷ Take 1 1 ∷ Put 1 0 ∷ Put 1 0 ∷ Take 1 0 ∷ Put 1 1 ∷ Put 1 1 ∷ [])
    (core_from draining [])
    ≡ true ∷ false ∷ false ∷ true ∷ false ∷ true ∷ false ∷ false ∷ true ∷ false ∷ false ∷ true ∷ false ∷ []
unfolding draining core_from
draining-answers = refl

-- after one cycle of router 0 its own wire is empty, and its neighbour's has two beats
one_flit-wires : let k = core_from one_flit (Take 0 0 ∷ Decide 0 ∷ Put 0 0 ∷ []) in
    length (wire_at k 1 1) ∷ length (wire_at k 0 0) ∷ map (λ (post : Post). post.steps) k.posts ≡ 2 ∷ 0 ∷ 1 ∷ 0 ∷ []
unfolding one_flit core_from
one_flit-wires = refl

-- all events of one router, once
abbrev pub router_cycle : Setup → ℕ → List Event
router_cycle net r = map (Take r) (below (local_port net.relation.grid)) ++ (Decide r ∷ []) ++ map (Put r) (below (local_port net.relation.grid))

abbrev pub repeated : {X : Type 0} → ℕ → List X → List X
repeated zero xs = []
repeated (suc n) xs = xs ++ repeated n xs

abbrev pub steps_of : CoreState → List ℕ
steps_of k = map (λ (post : Post). post.steps) k.posts

-- seven cycles, from the last router to the first
draining-backwards : steps_of (core_from draining (repeated 7 (flat_map (router_cycle draining) (2 ∷ 1 ∷ 0 ∷ [])))) ≡ 7 ∷ 7 ∷ 7 ∷ []
unfolding draining core_from
draining-backwards = refl

-- router 2 stops after five cycles: its neighbour can make one more, and the next one two
abbrev pub skewed : List Event
skewed = repeated 5 (flat_map (router_cycle draining) (0 ∷ 1 ∷ 2 ∷ [])) ++ repeated 4 (flat_map (router_cycle draining) (0 ∷ 1 ∷ []))

draining-skewed : steps_of (core_from draining skewed) ≡ 7 ∷ 6 ∷ 5 ∷ []
unfolding draining core_from
draining-skewed = refl
