-- All routers in step, each by its own view, and the view of a router in a state of the whole
-- network (docs/MODEL.md, "One router and the whole network").
use Rattle.std.specs.Prelude.{ℕ, zero, suc, ◌-◌, Bool, false, ◌&&◌, ◌||◌, not, List, [], map, filter, find, count_by, Option, Some, None, option_map, option_and_then, is_some, unwrap_or, slice_index_or, nat_eq, nat_lt, if◌then◌else◌, replicate, ◌/◌, ◌%◌}
use Rattle.std.specs.List.{list_any}
use Rattle.noc_topo.specs.Lists.{below, tabulate, map_indexed, is_some_of}
use Rattle.noc_topo.specs.Shape.{nodes, local_port, neighbour}
use Rattle.noc_packet.specs.Packet.{flit_at}
use Rattle.noc_packet.specs.declared.packet.Packet.{Packet}
use Rattle.noc_packet.specs.declared.packet.Flit.{Flit}
use Rattle.noc_packet.specs.declared.packet.Beat.{Beat}
use Rattle.noc_route.specs.Channel.{Channel, Link, same_channel, is_link, sending_router, output_index, channel_vc}
use Rattle.noc_route.specs.Routes.{set_at}
use Rattle.noc_view.specs.Verdict.{is_event, column, out_of}
use Rattle.noc_vc.specs.Input.{Input, idle_input, next_of}
use Rattle.noc_vc.specs.Output.{Output, ejection_output}
use Rattle.noc_vc.specs.declared.input.InputState.{InputState}
use Rattle.noc_vc.specs.declared.input.InputState.TheVariants.{Idle, Waiting, Active}
use Rattle.noc_vc.specs.declared.output.OutputState.{OutputState}
use Rattle.noc_vc.specs.declared.output.OutputState.TheVariants.{Idle as Free, Owned, Draining}
use Rattle.noc_view.specs.View.{Site, View, local_step, opening_view, idle_beat, idle_beats, port_and_vc}
use Rattle.noc_view.specs.declared.verdict.Verdict.TheVariants.{Empty}
use Rattle.noc_view.specs.declared.finding.Finding.{Finding}
use Rattle.noc_theory.specs.Network.{Setup, State, Located, Place, Source, On, In, Out, size, packet_at, arriving, leaving, flits_of, buffer_of, owner_of, owned_by, next_channel, credit_of, has_channel, is_past, is_in, is_on, is_at_source, tail_place, first_waiting, is_injection_of, out_cycle, arbiters_at, state_at, frozen_at, verdict_in, verdict_in_cycle, claim_of, injection_at, after_credits, after_landing, end_of}
use Rattle.noc_packet.specs.ByNode.{starts_of, ends_of}

-- the beats of router r, by link port
abbrev pub beats_at : List (List Beat) → ℕ → List Beat
beats_at wires r = slice_index_or wires r []

-- the beat that a router was sent by its neighbour at a port, where `sent` has for each
-- router the beats that it put
abbrev pub beat_from : List (List Beat) → Option (ℕ × ℕ) → Beat
beat_from sent None = idle_beat
beat_from sent (Some from) = slice_index_or (beats_at sent from.0) from.1 idle_beat

module _ (net : Setup) where
  -- what router r is built for
  abbrev pub site_at : ℕ → Site
  site_at r = record {
    grid = net.relation.grid;
    node = r;
    vcs = net.relation.vcs;
    depth = net.depth;
  }

  -- the packets of a node with their numbers, in the order in which they are injected
  abbrev pub starts_at : ℕ → List (ℕ × Packet)
  starts_at r = starts_of net.packets r

  -- the numbers of the packets that end at a node
  abbrev pub ends_at : ℕ → List ℕ
  ends_at r = ends_of net.packets r

  -- ---- the lockstep run: each router makes one step, then the beats change places

  -- all views, and the beats in flight
  pub record Lockstep : Type 0 where
    pub views : List View  -- of each router
    pub wires : List (List Beat)  -- by router and link port, the beat on the wire that arrives

  -- each router has its opening view, each wire an idle beat
  unfoldable pub opening_lockstep : Lockstep
  opening_lockstep = record {
    views = tabulate (nodes net.relation.grid)
        (λ r. opening_view (site_at r) (starts_at r) (ends_at r));
    wires = replicate (nodes net.relation.grid)
        (replicate (local_port net.relation.grid) idle_beat);
  }

  -- the wires after each router has put its beats
  unfoldable pub wires_after_puts : List (List Beat) → List (List Beat)
  wires_after_puts sent =
      tabulate (nodes net.relation.grid) (λ r. tabulate (local_port net.relation.grid)
      (λ port. beat_from sent (neighbour net.relation.grid r port)))

  -- cycle n of all routers
  unfoldable pub lockstep_cycle : ℕ → Lockstep → Lockstep
  lockstep_cycle n all =
      let steps = map_indexed
      (λ r view. local_step net.relation view (beats_at all.wires r) n) all.views in
      record {
        views = map (λ (step : View × List Beat). step.0) steps;
        wires = wires_after_puts (map (λ (step : View × List Beat). step.1) steps);
      }

  -- the lockstep run at the start of cycle n
  unfoldable pub lockstep_at : ℕ → Lockstep
  lockstep_at zero = opening_lockstep
  lockstep_at (suc n) = lockstep_cycle n (lockstep_at n)

  -- ---- the view of router r in state S

  -- whether a flit bound for t that is at this place has come to the buffer of c
  abbrev pub has_come : Channel → ℕ → Place → Bool
  has_come c t place = is_in c place || is_past net c t place

  -- how many flits of p have come to the buffer of c
  abbrev pub come_count : State → Channel → ℕ → ℕ
  come_count S c p =
      count_by (λ (f : Located). has_come c (packet_at net p).destination f.place)
      (flits_of net S p)

  -- whether the head of p has come to the buffer of c and its tail has not left it
  abbrev pub is_present : State → Channel → ℕ → Bool
  is_present S c p =
      nat_lt 0 (come_count S c p)
      && not (is_past net c (packet_at net p).destination (tail_place net S p))

  -- the flits in the buffer of an input channel, if it exists
  abbrev pub seen_flits : State → Option Channel → List Flit
  seen_flits S None = []
  seen_flits S (Some c) =
      map (λ (f : Located). flit_at (packet_at net f.packet) f.packet f.index) (buffer_of net S c)

  -- the set of the relation for the packet that owns the input channel with index i of router r
  abbrev pub seen_set : State → ℕ → ℕ → Option ℕ → ℕ
  seen_set S r i None = 0
  seen_set S r i (Some p) =
      set_at net.relation (packet_at net p).class r (i / net.relation.vcs) (i % net.relation.vcs)
      (packet_at net p).destination

  -- a routed channel is active where it has a next channel, and else it waits
  abbrev pub seen_phase_with : State → ℕ → ℕ → Channel → Option Channel → InputState
  seen_phase_with S r i c None = Waiting (seen_set S r i (owner_of net S c))
  seen_phase_with S r i c (Some o) = Active (output_index net.relation.grid net.relation.vcs o)

  -- a channel that is not routed is idle; a routed one is active where it has a next
  -- channel, and else it waits
  abbrev pub seen_phase : State → ℕ → ℕ → Channel → InputState
  seen_phase S r i c =
      if has_channel S.routed c then seen_phase_with S r i c (next_channel net S c) else Idle

  -- the last flit of p that has come to the buffer of c
  abbrev pub last_come : State → Channel → ℕ → Option Flit
  last_come S c p =
      if nat_eq (come_count S c p) 0 then None
      else Some (flit_at (packet_at net p) p (come_count S c p - 1))

  -- the input channel with index i of router r
  abbrev pub seen_input : State → ℕ → ℕ → Option Channel → Input
  seen_input S r i None = idle_input
  seen_input S r i (Some c) = record {
    phase = seen_phase S r i c;
    packet = option_and_then (λ p. if is_present S c p then Some p else None) (owner_of net S c);
    awaited = option_and_then (λ p. option_and_then next_of (last_come S c p)) (owner_of net S c);
  }

  -- whether the packet of c goes on by o
  abbrev pub goes_on_by : State → Channel → Channel → Bool
  goes_on_by S o c = unwrap_or (option_map (same_channel o) (next_channel net S c)) false

  -- the input channel of router r whose packet goes on by o
  abbrev pub seen_sender : State → ℕ → Channel → ℕ
  seen_sender S r o =
      unwrap_or (find (λ i. unwrap_or (option_map (goes_on_by S o) (arriving net r i)) false)
      (below (size net))) 0

  -- an owned link channel is draining once the tail has been sent on it
  abbrev pub seen_holder : State → ℕ → Channel → Option ℕ → OutputState
  seen_holder S r o None = Free
  seen_holder S r o (Some p) =
      if is_link o
      && (is_on o (tail_place net S p)
      || has_come o (packet_at net p).destination (tail_place net S p))
      then Draining
      else Owned (seen_sender S r o) p

  -- the output channel o of router r
  abbrev pub seen_output : State → ℕ → Channel → Output
  seen_output S r o =
      if is_link o
      then record {
        holder = seen_holder S r o (owner_of net S o);
        credit = Some (credit_of net S o);
        depth = net.depth;
      }
      else record ejection_output { holder = seen_holder S r o (owner_of net S o) }

  -- the injection channel of the first waiting packet, once it has begun, and
  -- the index of its next flit
  abbrev pub seen_sending : State → ℕ → Option ℕ → Option (ℕ × ℕ)
  seen_sending S r None = None
  seen_sending S r (Some p) =
      option_map
      (λ c.
      (channel_vc c, count_by (λ (f : Located). not (is_at_source f.place)) (flits_of net S p)))
      (find (is_injection_of net r) (owned_by net S p))

  -- whether a packet has a flit at its source
  abbrev pub has_flit_at_source : State → ℕ × Packet → Bool
  has_flit_at_source S one = list_any (λ (f : Located). is_at_source f.place) (flits_of net S one.0)

  -- the view of router r in state S, where nothing was counted, found or noted yet
  unfoldable pub view_in : State → ℕ → View
  view_in S r = record {
    site = site_at r;
    buffers = tabulate (size net) (λ i. seen_flits S (arriving net r i));
    inputs = tabulate (size net) (λ i. seen_input S r i (arriving net r i));
    outputs = tabulate (size net) (λ o. seen_output S r (leaving net r o));
    arbiters = arbiters_at net S r;
    queue = filter (has_flit_at_source S) (starts_at r);
    sending = seen_sending S r (first_waiting net S r);
    ends = map (λ p. (p, out_cycle (tail_place net S p))) (ends_at r);
    misfits = 0;
    last_event = None;
    counts = replicate (size net) (replicate 10 0);
    findings = [];
    given = 0;
    had_event = false;
    to_put = idle_beats (site_at r);
  }

  -- ---- what router r has counted, found and noted at the start of cycle n

  -- whether a flit at this place is on its way to router r
  abbrev pub flies_to : ℕ → Place → Bool
  flies_to r Source = false
  flies_to r (On c) = is_some_of (end_of net.relation c) r
  flies_to r (In c) = false
  flies_to r (Out n) = false

  -- whether router r has an event in cycle n: a landing, a credit, an injection, a
  -- route, a grant or a move
  abbrev pub has_event_at : ℕ → ℕ → Bool
  has_event_at n r =
      let S = state_at net n in
      list_any (λ (f : Located). flies_to r f.place) S.at
      || list_any (λ c. is_some_of (sending_router c) r) S.back
      || is_some (injection_at net (after_credits net (after_landing net S)) n r)
      || list_any (λ i. is_event (verdict_in_cycle net n r i)) (below (size net))

  -- the last cycle below n in which router r had an event
  abbrev pub last_event_at : ℕ → ℕ → Option ℕ
  last_event_at zero r = None
  last_event_at (suc n) r = if has_event_at n r then Some n else last_event_at n r

  -- the finding of an input channel of router r in a frozen state
  abbrev pub finding_in : State → ℕ → ℕ → Option Channel → Finding
  finding_in F r i None = record { verdict = Empty; packet = None; out = None }
  finding_in F r i (Some c) = record {
    verdict = verdict_in net F c;
    packet = (seen_input F r i (Some c)).packet;
    out = option_map (port_and_vc (site_at r)) (out_of (claim_of net F r c));
  }

  -- the findings of router r in cycle n
  abbrev pub findings_in_cycle : ℕ → ℕ → List Finding
  findings_in_cycle n r =
      tabulate (size net) (λ i. finding_in (frozen_at net n) r i (arriving net r i))

  -- those of the cycle before count n
  abbrev pub findings_before : ℕ → ℕ → List Finding
  findings_before zero r = []
  findings_before (suc n) r = findings_in_cycle n r

  -- how often input channel i of router r had each verdict in the cycles below n
  abbrev pub counts_before : ℕ → ℕ → ℕ → List ℕ
  counts_before n r i =
      tabulate 10 (λ k. count_by (λ m. nat_eq (column (verdict_in_cycle net m r i)) k) (below n))

  -- the whole view of router r at the start of cycle n
  unfoldable pub view_at : ℕ → ℕ → View
  view_at n r = record (view_in (state_at net n) r) {
    last_event = last_event_at n r;
    counts = tabulate (size net) (counts_before n r);
    findings = findings_before n r;
    given = n - 1;
  }

  -- ---- the beats on the wires in state S

  -- the flit on the wire of c
  abbrev pub flit_on : State → Channel → Option Flit
  flit_on S c =
      option_map (λ (f : Located). flit_at (packet_at net f.packet) f.packet f.index)
      (find (λ (f : Located). is_on c f.place) S.at)

  -- the beat on its way to router r from the sender at its port: the flit that it sent, and
  -- the credit for a flit of r
  abbrev pub beat_by : State → ℕ → ℕ → Option (ℕ × ℕ) → Beat
  beat_by S r port None = idle_beat
  beat_by S r port (Some from) = record {
    flit = option_and_then (λ vc. option_map (λ f. (vc, f)) (flit_on S (Link from.0 from.1 vc)))
        (find (λ vc. is_some (flit_on S (Link from.0 from.1 vc))) (below net.relation.vcs));
    credit = find (λ vc. has_channel S.back (Link r port vc)) (below net.relation.vcs);
  }

  -- by router and link port, the beat on the wire that arrives
  unfoldable pub beats_in : State → List (List Beat)
  beats_in S =
      tabulate (nodes net.relation.grid) (λ r. tabulate (local_port net.relation.grid)
      (λ port. beat_by S r port (neighbour net.relation.grid r port)))
