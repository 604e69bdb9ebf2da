-- What the network cycle gives on small networks: arrivals, verdicts, counts, pending and stuck
-- cycles, and the work left.
use Rattle.std.proofs.Common.{◌≡◌, ℕ, suc, ◌+◌, Bool, true, false, List, [], ◌∷◌, Option, Some, None, refl, map, length}
use Rattle.std.specs.Prelude.{nat_eq}
use Rattle.noc_view.specs.Verdict.{first_in_turn}
use Rattle.noc_view.specs.declared.verdict.Verdict.TheVariants.{NoCredit}
use Rattle.noc_theory.proofs.Common.{list_all, below, tabulate, map_indexed, least_by, inputs, Verdict, Empty, Routed, Granted, Moved, NoIdleChannel, LostChannel, Setup, State, opening_state, after_landing, after_credits, after_injection, frozen_state, after_verdicts, network_cycle, state_at, arrival_in, verdict_in_cycle, counts_before, events, last_event_before, is_stuck, remainder, budget}
use Rattle.noc_theory.specs.Alone.{zero_load_latency}
use Rattle.noc_theory.proofs.runs.NetworkExamples.{one_flit, three_flits, one_slot, one_by_one, draining, one_source, due_first, contended, deadlocked, woken, dateline, joined_twice}

-- the state at count n; to open it is to open all that it is computed by
unfoldable pub state_after : Setup → ℕ → State
unfolding below tabulate map_indexed least_by inputs first_in_turn opening_state after_landing after_credits after_injection frozen_state after_verdicts network_cycle state_at
state_after net n = state_at net n

-- the cycle in which each packet's tail was out, at count n
abbrev pub arrivals : Setup → ℕ → List (Option ℕ)
arrivals net n = map (arrival_in net (state_after net n)) (below (length net.packets))

-- the verdicts of input channel i of router r in cycles 0 to n-1
abbrev pub verdicts : Setup → ℕ → ℕ → ℕ → List Verdict
verdicts net n r i = map (λ k. verdict_in_cycle net k r i) (below n)

-- a packet of one flit: routed in 0, granted in 1, moved in 2, then the same at the next router
one_flit-arrives : arrivals one_flit 8 ≡ Some 5 ∷ []
unfolding one_flit state_after
one_flit-arrives = refl

one_flit-sent : verdicts one_flit 4 0 2 ≡ Routed ∷ Granted ∷ Moved ∷ Empty ∷ []
unfolding one_flit state_after
one_flit-sent = refl

one_flit-received : verdicts one_flit 6 1 1 ≡ Empty ∷ Empty ∷ Empty ∷ Routed ∷ Granted ∷ Moved ∷ []
unfolding one_flit state_after
one_flit-received = refl

-- the last event is the credit that comes back
one_flit-last_event : last_event_before one_flit 8 ≡ Some 6
unfolding one_flit state_after
one_flit-last_event = refl

three_flits-arrive : arrivals three_flits 10 ≡ Some 7 ∷ []
unfolding three_flits state_after
three_flits-arrive = refl

three_flits-counts : counts_before three_flits 10 0 2 ∷ counts_before three_flits 10 1 1 ∷ []
    ≡ (3 ∷ 1 ∷ 1 ∷ 3 ∷ 0 ∷ 0 ∷ 0 ∷ 2 ∷ 0 ∷ 0 ∷ []) ∷ (5 ∷ 1 ∷ 1 ∷ 3 ∷ 0 ∷ 0 ∷ 0 ∷ 0 ∷ 0 ∷ 0 ∷ []) ∷ []
unfolding three_flits state_after
three_flits-counts = refl

one_slot-arrives : arrivals one_slot 12 ≡ Some 9 ∷ []
unfolding one_slot state_after
one_slot-arrives = refl

-- these packets are alone: with two slots they take exactly this, with one slot longer
alone-latency : zero_load_latency three_flits 0 ∷ zero_load_latency one_slot 0 ∷ zero_load_latency one_by_one 1 ∷ [] ≡ 7 ∷ 7 ∷ 11 ∷ []
unfolding three_flits one_slot one_by_one
alone-latency = refl

-- with one place each flit waits for the credit of the one before it
one_slot-counts : counts_before one_slot 12 0 2 ∷ counts_before one_slot 12 1 1 ∷ []
    ≡ (3 ∷ 1 ∷ 1 ∷ 3 ∷ 0 ∷ 0 ∷ 0 ∷ 4 ∷ 0 ∷ 0 ∷ []) ∷ (5 ∷ 1 ∷ 1 ∷ 3 ∷ 2 ∷ 0 ∷ 0 ∷ 0 ∷ 0 ∷ 0 ∷ []) ∷ []
unfolding one_slot state_after
one_slot-counts = refl

-- four flits over two hops take eleven cycles
one_by_one-arrive : arrivals one_by_one 25 ≡ Some 6 ∷ Some 18 ∷ Some 24 ∷ []
unfolding one_by_one state_after
one_by_one-arrive = refl

draining-arrives : arrivals draining 20 ≡ Some 10 ∷ Some 5 ∷ []
unfolding draining state_after
draining-arrives = refl

-- the first packet waits at router 1 until the credit of the second has come
draining-waits : verdicts draining 9 1 1 ≡ Empty ∷ Empty ∷ Empty ∷ Routed ∷ NoIdleChannel ∷ NoIdleChannel ∷ Granted ∷ Moved ∷ Empty ∷ []
unfolding draining state_after
draining-waits = refl

one_source-arrives : arrivals one_source 12 ≡ Some 5 ∷ Some 6 ∷ []
unfolding one_source state_after
one_source-arrives = refl

-- the packet that is due first goes first; the other waits in cycle 5 for the channel to drain
due_first-arrives : arrivals due_first 12 ≡ Some 10 ∷ Some 5 ∷ []
unfolding due_first state_after
due_first-arrives = refl

contended-arrives : arrivals contended 30 ≡ Some 8 ∷ Some 9 ∷ Some 29 ∷ Some 28 ∷ []
unfolding contended state_after
contended-arrives = refl

-- the channel from router 0 wins in cycle 4, and the local channel in cycle 24,
-- since the pointer has moved
contended-wins : verdict_in_cycle contended 4 1 2 ∷ verdict_in_cycle contended 4 1 4 ∷ verdict_in_cycle contended 24 1 2 ∷ verdict_in_cycle contended 24 1 4 ∷ []
    ≡ Granted ∷ LostChannel ∷ LostChannel ∷ Granted ∷ []
unfolding contended state_after
contended-wins = refl

deadlocked-never_arrives : arrivals deadlocked 20 ≡ None ∷ None ∷ None ∷ None ∷ []
unfolding deadlocked state_after
deadlocked-never_arrives = refl

deadlocked-counts : counts_before deadlocked 20 0 1 ∷ counts_before deadlocked 20 3 2 ∷ []
    ≡ (3 ∷ 1 ∷ 0 ∷ 0 ∷ 0 ∷ 16 ∷ 0 ∷ 0 ∷ 0 ∷ 0 ∷ []) ∷ (0 ∷ 1 ∷ 1 ∷ 1 ∷ 0 ∷ 0 ∷ 0 ∷ 17 ∷ 0 ∷ 0 ∷ []) ∷ []
unfolding deadlocked state_after
deadlocked-counts = refl

deadlocked-last_event : last_event_before deadlocked 20 ≡ Some 3
unfolding deadlocked state_after
deadlocked-last_event = refl

deadlocked-stuck : map (is_stuck deadlocked) (below 8) ≡ false ∷ false ∷ false ∷ false ∷ false ∷ true ∷ true ∷ true ∷ []
unfolding deadlocked state_after
deadlocked-stuck = refl

-- nothing happens in cycles 4 to 8, and in cycle 9 the packet that is due then is injected
woken-events : map (λ k. events woken k (state_after woken k)) (below 12) ≡ 8 ∷ 4 ∷ 4 ∷ 8 ∷ 0 ∷ 0 ∷ 0 ∷ 0 ∷ 0 ∷ 2 ∷ 0 ∷ 0 ∷ []
unfolding woken state_after
woken-events = refl

-- so it is stuck until that packet is due, and not a cycle longer
woken-stuck : map (is_stuck woken) (below 12) ≡ false ∷ false ∷ false ∷ false ∷ false ∷ true ∷ true ∷ true ∷ true ∷ true ∷ false ∷ true ∷ []
unfolding woken state_after
woken-stuck = refl

dateline-arrives : arrivals dateline 46 ≡ Some 24 ∷ Some 14 ∷ Some 44 ∷ Some 34 ∷ []
unfolding dateline state_after
dateline-arrives = refl

-- in cycle 5 router 2 has no credit for its local channel, and another channel wins the switch
dateline-no_credit : verdict_in_cycle dateline 5 2 4 ∷ verdict_in_cycle dateline 5 2 3 ∷ [] ≡ NoCredit ∷ Moved ∷ []
unfolding dateline state_after
dateline-no_credit = refl

dateline-last_event : last_event_before dateline 60 ≡ Some 45
unfolding dateline state_after
dateline-last_event = refl

joined_twice-arrives : arrivals joined_twice 8 ≡ Some 5 ∷ Some 5 ∷ []
unfolding joined_twice state_after
joined_twice-arrives = refl

joined_twice-counts : counts_before joined_twice 8 0 1 ∷ counts_before joined_twice 8 1 0 ∷ []
    ≡ (5 ∷ 1 ∷ 1 ∷ 1 ∷ 0 ∷ 0 ∷ 0 ∷ 0 ∷ 0 ∷ 0 ∷ []) ∷ (8 ∷ 0 ∷ 0 ∷ 0 ∷ 0 ∷ 0 ∷ 0 ∷ 0 ∷ 0 ∷ 0 ∷ []) ∷ []
unfolding joined_twice state_after
joined_twice-counts = refl

-- ---- each event lowers the work that is left by one

abbrev pub falls : Setup → ℕ → Bool
falls net n = nat_eq (remainder net (state_at net n)) (remainder net (state_at net (suc n)) + events net n (state_at net n))

one_slot-falls : list_all (falls one_slot) (below 12) ≡ true
unfolding one_slot state_after
one_slot-falls = refl

contended-falls : list_all (falls contended) (below 30) ≡ true
unfolding contended state_after
contended-falls = refl

deadlocked-falls : list_all (falls deadlocked) (below 8) ≡ true
unfolding deadlocked state_after
deadlocked-falls = refl

dateline-budget : budget dateline ∷ remainder dateline (state_after dateline 0) ∷ remainder dateline (state_after dateline 46) ∷ [] ≡ 152 ∷ 152 ∷ 0 ∷ []
unfolding dateline state_after
dateline-budget = refl
