-- Events, pending cycles, and what is left to do (docs/MODEL.md, "Events, pending, stuck").
use Rattle.std.specs.Prelude.{ℕ, zero, suc, ◌+◌, ◌*◌, ◌<◌, Bool, true, false, ◌&&◌, length, count_by, sum_by, Option, Some, None, is_none, is_some, nat_eq, nat_lt, nat_le, if◌then◌else◌}
use Rattle.std.specs.List.{list_any}
use Rattle.noc_topo.specs.Lists.{below}
use Rattle.noc_topo.specs.Shape.{distance}
use Rattle.noc_route.specs.Channel.{Link, Inject, Eject}
use Rattle.noc_view.specs.Verdict.{is_event}
use Rattle.noc_theory.specs.Network.{Setup, State, Located, place_of_flit, Place, Source, On, In, Out, packet_at, state_at, frozen_state, verdict_in, after_landing, after_credits, injections, all_inputs, has_channel, next_channel, arrival_in, end_distance}

-- whether it is a wire
abbrev pub is_flying : Place → Bool
is_flying Source = false
is_flying (On c) = true
is_flying (In c) = false
is_flying (Out n) = false

module _ (net : Setup) where
  -- the events of cycle n: landings, credits, injections, and routes, grants and moves
  abbrev pub events : ℕ → State → ℕ
  events n S =
      count_by (λ (f : Located). is_flying f.place) S.at
      + length S.back
      + length (injections net (after_credits net (after_landing net S)) n)
      + count_by (λ c. is_event (verdict_in net (frozen_state net n S) c)) (all_inputs net)

  -- the last cycle below n that had an event
  abbrev pub last_event_before : ℕ → Option ℕ
  last_event_before zero = None
  last_event_before (suc n) =
      if nat_lt 0 (events n (state_at net n)) then Some n else last_event_before n

  -- cycle n is pending: the tail of a packet that was due by then is not out
  abbrev pub is_pending : ℕ → State → Bool
  is_pending n S =
      list_any (λ p. nat_le (packet_at net p).due n && is_none (arrival_in net S p))
      (below (length net.packets))

  -- the cycle before count n was pending and had no event
  abbrev pub is_stuck : ℕ → Bool
  is_stuck zero = false
  is_stuck (suc n) = is_pending n (state_at net n) && nat_eq (events n (state_at net n)) 0

  -- no packet becomes due after cycle n and by cycle m
  abbrev pub NoneDue : ℕ → ℕ → Type 0
  NoneDue n m =
      (p : ℕ) → p < length net.packets → n < (packet_at net p).due → m < (packet_at net p).due

  -- ---- the work that is left, in events

  -- the hops that a packet has from its source to its destination
  abbrev pub hops : ℕ → ℕ
  hops p = distance net.relation.grid (packet_at net p).source (packet_at net p).destination

  -- the injection, moves, landings and credits that a flit at this place still has
  -- before it: three for each hop
  abbrev pub weight : ℕ → Place → ℕ
  weight p Source = 3 * hops p + 2
  weight p (On c) = 3 * end_distance net.relation c (packet_at net p).destination + 3
  weight p (In (Link r q v)) =
      3 * end_distance net.relation (Link r q v) (packet_at net p).destination + 2
  weight p (In (Inject n v)) = 3 * hops p + 1
  weight p (In (Eject n v)) = 0
  weight p (Out n) = 0

  -- the routes and grants that a head at this place still has before it: two for each router
  abbrev pub allocations_left : State → ℕ → Place → ℕ
  allocations_left S p Source = 2 * (hops p + 1)
  allocations_left S p (On c) = 2 * (end_distance net.relation c (packet_at net p).destination + 1)
  allocations_left S p (In c) =
      2 * end_distance net.relation c (packet_at net p).destination
      + (if has_channel S.routed c then (if is_some (next_channel net S c) then 0 else 1) else 2)
  allocations_left S p (Out n) = 0

  -- where the head of p is
  abbrev pub head_place : State → ℕ → Place
  head_place S p = place_of_flit net S p 0

  -- the events that are left; each event lowers it by one
  abbrev pub remainder : State → ℕ
  remainder S =
      sum_by (λ (f : Located). weight f.packet f.place) S.at
      + sum_by (λ p. allocations_left S p (head_place S p)) (below (length net.packets))
      + length S.back

  -- the events of a whole run in which every packet arrives
  abbrev pub budget : ℕ
  budget =
      sum_by (λ p. (packet_at net p).length * (3 * hops p + 2) + 2 * (hops p + 1))
      (below (length net.packets))
