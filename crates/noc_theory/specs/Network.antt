-- The state of the whole network, and one cycle of it in five phases (docs/MODEL.md, "One cycle").
use Rattle.std.specs.Prelude.{ℕ, zero, suc, ◌+◌, ◌-◌, ◌*◌, Bool, true, false, ◌&&◌, ◌||◌, not, List, [], ◌++◌, map, filter, find, length, Option, Some, None, option_map, option_and_then, is_none, unwrap_or, slice_index_or, nat_eq, nat_lt, nat_le, if◌then◌else◌, replicate}
use Rattle.std.specs.List.{list_any, filter_map, flat_map, enumerate_from}
use Rattle.noc_topo.specs.Lists.{below, tabulate, map_indexed, is_some_of, least_by}
use Rattle.noc_topo.specs.Shape.{nodes, ports, distance}
use Rattle.noc_packet.specs.declared.packet.Packet.{Packet}
use Rattle.noc_route.specs.Channel.{Channel, Link, Inject, Eject, same_channel, is_link, sending_router, arrival_of, channel_vc, output_at, output_index, input_at, inputs}
use Rattle.noc_route.specs.Routes.{Routes, permits}
use Rattle.noc_view.specs.Verdict.{ArbiterStates, opening_arbiters, Claim, Unrouted, Waits, Holds, Stand, Round, round_of, verdict_of, is_routed, is_granted, is_moved, arbiters_after}
use Rattle.noc_view.specs.declared.verdict.Verdict.{Verdict}
use Rattle.noc_view.specs.declared.verdict.Verdict.TheVariants.{Empty}

-- what a network is built from; a packet's number is its index in the list
pub record Setup : Type 0 where
  pub relation : Routes
  pub depth : ℕ  -- of each buffer, in flits
  pub packets : List Packet

-- a network after this many cycles: the four values that determine all that can be read of it
pub record Run : Type 0 where
  pub net : Setup
  pub count : ℕ

-- where a flit is: at its source, on the wire of a channel, in its buffer, or out since a cycle
pub data Place : Type 0 where
  Source : Place
  On : Channel → Place
  In : Channel → Place
  Out : (cycle : ℕ) → Place

-- a flit, by its packet and index, and where it is
pub record Located : Type 0 where
  pub packet : ℕ
  pub index : ℕ
  pub place : Place

-- the state of the whole network at the start of a cycle (docs/MODEL.md, "The state")
pub record State : Type 0 where
  pub at : List Located  -- each flit once, by packet and index
  pub own : List (Channel × ℕ)  -- owned channels with their packets, the earliest owned first
  pub routed : List Channel  -- channels whose head was routed and whose tail has not left
  pub back : List Channel  -- link channels with a credit on its way back
  pub arbiters : List ArbiterStates  -- of each router

-- whether it is the source
abbrev pub is_at_source : Place → Bool
is_at_source Source = true
is_at_source (On c) = false
is_at_source (In c) = false
is_at_source (Out n) = false

-- whether it is the buffer of c
abbrev pub is_in : Channel → Place → Bool
is_in c Source = false
is_in c (On d) = false
is_in c (In d) = same_channel c d
is_in c (Out n) = false

-- whether it is the wire of c
abbrev pub is_on : Channel → Place → Bool
is_on c Source = false
is_on c (On d) = same_channel c d
is_on c (In d) = false
is_on c (Out n) = false

-- the cycle in which a flit at this place went out
abbrev pub out_cycle : Place → Option ℕ
out_cycle Source = None
out_cycle (On c) = None
out_cycle (In c) = None
out_cycle (Out n) = Some n

-- whether c is in the list
abbrev pub has_channel : List Channel → Channel → Bool
has_channel cs c = list_any (same_channel c) cs

-- the router where a channel ends, which holds its buffer
abbrev pub end_of : Routes → Channel → Option ℕ
end_of g c = option_map (λ (input : ℕ × ℕ). input.0) (arrival_of g.grid c)

-- the distance from the end of a channel to node t (Dally and Towles, chapter 3)
abbrev pub end_distance : Routes → Channel → ℕ → ℕ
end_distance g c t = unwrap_or (option_map (λ r. distance g.grid r t) (end_of g c)) 0

module _ (net : Setup) where
  -- how many input channels a router has, and as many output channels
  abbrev pub size : ℕ
  size = ports net.relation.grid * net.relation.vcs

  -- the packet with this number
  abbrev pub packet_at : ℕ → Packet
  packet_at p =
      slice_index_or net.packets p
      (record { source = 0; destination = 0; class = 0; length = 0; due = 0 })

  -- the input channel with this index of router r, which arrives there
  abbrev pub arriving : ℕ → ℕ → Option Channel
  arriving r i = input_at net.relation.grid net.relation.vcs r i

  -- the output channel with this index of router r, which begins there
  abbrev pub leaving : ℕ → ℕ → Channel
  leaving r o = output_at net.relation.grid net.relation.vcs r o

  -- all link and injection channels
  abbrev pub all_inputs : List Channel
  all_inputs = inputs net.relation.grid net.relation.vcs

  -- every flit at its source, nothing owned, all pointers at 0
  unfoldable pub opening_state : State
  opening_state = record {
    at = flat_map
        (λ (one : ℕ × Packet). map (λ i. record { packet = one.0; index = i; place = Source })
        (below one.1.length)) (enumerate_from 0 net.packets);
    own = [];
    routed = [];
    back = [];
    arbiters = replicate (nodes net.relation.grid)
        (opening_arbiters (ports net.relation.grid) net.relation.vcs);
  }

  -- ---- buffers, owners and credits (Dally and Towles, chapter 13)

  -- the flits in the buffer of c, in order of index
  abbrev pub buffer_of : State → Channel → List Located
  buffer_of S c = filter (λ (f : Located). is_in c f.place) S.at

  -- the first flit in the buffer of c
  abbrev pub front_in : State → Channel → Option Located
  front_in S c = find (λ (f : Located). is_in c f.place) S.at

  -- how many flits are in the buffer of c
  abbrev pub count_in : State → Channel → ℕ
  count_in S c = length (buffer_of S c)

  -- how many flits are on the wire of c
  abbrev pub count_on : State → Channel → ℕ
  count_on S c = length (filter (λ (f : Located). is_on c f.place) S.at)

  -- the flits of packet p, in order of index
  abbrev pub flits_of : State → ℕ → List Located
  flits_of S p = filter (λ (f : Located). nat_eq p f.packet) S.at

  -- where flit i of packet p is
  abbrev pub place_of_flit : State → ℕ → ℕ → Place
  place_of_flit S p i =
      unwrap_or (option_map (λ (f : Located). f.place)
      (find (λ (f : Located). nat_eq p f.packet && nat_eq i f.index) S.at)) Source

  -- where the tail of p is
  abbrev pub tail_place : State → ℕ → Place
  tail_place S p = place_of_flit S p ((packet_at p).length - 1)

  -- the free slots of a link channel's buffer: not for a flit on the wire or in the
  -- buffer, nor for a credit on its way
  abbrev pub credit_of : State → Channel → ℕ
  credit_of S c = net.depth - count_on S c - count_in S c - (if has_channel S.back c then 1 else 0)

  -- the packet that owns c
  abbrev pub owner_of : State → Channel → Option ℕ
  owner_of S c =
      option_map (λ (pair : Channel × ℕ). pair.1) (find (λ pair. same_channel c pair.0) S.own)

  -- the channels of packet p, in the order in which it came to own them
  abbrev pub owned_by : State → ℕ → List Channel
  owned_by S p = map (λ (pair : Channel × ℕ). pair.0) (filter (λ pair. nat_eq p pair.1) S.own)

  -- nobody owns the channel
  abbrev pub is_idle : State → Channel → Bool
  is_idle S o = is_none (owner_of S o)

  -- an ejection channel, or a link channel with a credit
  abbrev pub has_credit_in : State → Channel → Bool
  has_credit_in S o = not (is_link o) || nat_lt 0 (credit_of S o)

  -- whether o begins at the router where c ends
  abbrev pub leads_from : Channel → Channel → Bool
  leads_from c o =
      unwrap_or (option_map (is_some_of (end_of net.relation c)) (sending_router o)) false

  -- the channel that begins where c ends and belongs to the packet that owns c
  abbrev pub next_channel : State → Channel → Option Channel
  next_channel S c = option_and_then (λ p. find (leads_from c) (owned_by S p)) (owner_of S c)

  -- the idle channel with the least index that the relation permits to the owner of
  -- c, which ends at router r
  abbrev pub ask : State → ℕ → Channel → Option ℕ
  ask S r c =
      option_and_then
      (λ p. find
      (λ o. is_idle S (leaving r o)
      && permits net.relation (packet_at p).class c (packet_at p).destination (leaving r o))
      (below size))
      (owner_of S c)

  -- ---- phase one: each flit on a wire lands

  -- from the wire into the buffer
  abbrev pub landed_place : Place → Place
  landed_place Source = Source
  landed_place (On c) = In c
  landed_place (In c) = In c
  landed_place (Out n) = Out n

  -- the state after phase one
  unfoldable pub after_landing : State → State
  after_landing S = record S {
    at = map (λ (f : Located). record f { place = landed_place f.place }) S.at;
  }

  -- ---- phase two: credits arrive, and link channels that their owner has left are idle

  -- whether a flit bound for t that is at this place has gone on from the buffer of c:
  -- it is out, or nearer to t
  abbrev pub is_past : Channel → ℕ → Place → Bool
  is_past c t Source = false
  is_past c t (On d) = nat_lt (end_distance net.relation d t) (end_distance net.relation c t)
  is_past c t (In d) = nat_lt (end_distance net.relation d t) (end_distance net.relation c t)
  is_past c t (Out n) = true

  -- whether a link channel is idle from now on, whose owner is given beside it
  abbrev pub is_freed : State → Channel × ℕ → Bool
  is_freed S pair =
      is_link pair.0 && is_past pair.0 (packet_at pair.1).destination (tail_place S pair.1)

  -- the state after phase two
  unfoldable pub after_credits : State → State
  after_credits S = record S { back = []; own = filter (λ pair. not (is_freed S pair)) S.own }

  -- ---- phase three: the source of each node injects at most one flit

  -- the first packet of a node, by due time and then by number, with a flit at its source
  abbrev pub first_waiting : State → ℕ → Option ℕ
  first_waiting S node =
      least_by (λ p. (packet_at p).due)
      (filter
      (λ p. nat_eq (packet_at p).source node
      && list_any (λ (f : Located). is_at_source f.place) (flits_of S p))
      (below (length net.packets)))

  -- whether it is an injection channel of the node
  abbrev pub is_injection_of : ℕ → Channel → Bool
  is_injection_of node (Link r p v) = false
  is_injection_of node (Inject m v) = nat_eq m node
  is_injection_of node (Eject m v) = false

  -- a packet of which one flit is injected, the channel to which it goes, and
  -- whether the packet begins there
  pub record Injection : Type 0 where
    pub packet : ℕ
    pub channel : Channel
    pub begins : Bool

  -- a packet that is due begins on the idle injection channel of its node with the least number
  abbrev pub beginning : State → ℕ → ℕ → ℕ → Option Injection
  beginning S n node p =
      if nat_le (packet_at p).due n
      then option_map (λ v. record { packet = p; channel = Inject node v; begins = true })
      (find (λ v. is_idle S (Inject node v)) (below net.relation.vcs))
      else None

  -- a packet that has begun goes on where the buffer of its injection channel has room
  abbrev pub injection_with : State → ℕ → ℕ → ℕ → Option Channel → Option Injection
  injection_with S n node p None = beginning S n node p
  injection_with S n node p (Some c) =
      if nat_lt (count_in S c) net.depth
      then Some (record { packet = p; channel = c; begins = false }) else None

  -- the injection at a node, if there is one
  abbrev pub injection_at : State → ℕ → ℕ → Option Injection
  injection_at S n node =
      option_and_then (λ p. injection_with S n node p (find (is_injection_of node) (owned_by S p)))
      (first_waiting S node)

  -- the injections at all nodes
  abbrev pub injections : State → ℕ → List Injection
  injections S n = filter_map (injection_at S n) (below (nodes net.relation.grid))

  -- whether they are the same flit
  abbrev pub is_the_flit : Located → Option Located → Bool
  is_the_flit f None = false
  is_the_flit f (Some g) = nat_eq f.packet g.packet && nat_eq f.index g.index

  -- the first flit of p at its source
  abbrev pub first_at_source : State → ℕ → Option Located
  first_at_source S p = find (λ (f : Located). nat_eq p f.packet && is_at_source f.place) S.at

  -- where flit f is after the injection of its packet, if there is one
  abbrev pub injected_place : State → Located → Option Injection → Place
  injected_place S f None = f.place
  injected_place S f (Some one) =
      if is_at_source f.place && is_the_flit f (first_at_source S f.packet) then In one.channel
      else f.place

  -- the state after phase three in cycle n
  unfoldable pub after_injection : ℕ → State → State
  after_injection n S =
      let all = injections S n in
      record S {
        at = map (λ (f : Located). record f {
          place = injected_place S f
              (find (λ (one : Injection). nat_eq one.packet f.packet) all);
        }) S.at;
        own = S.own
            ++ map (λ (one : Injection). (one.channel, one.packet))
            (filter (λ (one : Injection). one.begins) all);
      }

  -- ---- phase four: each input channel gets its verdict, all from this one frozen state

  -- the state after the first three phases of cycle n
  unfoldable pub frozen_state : ℕ → State → State
  frozen_state n S = after_injection n (after_credits (after_landing S))

  -- the claim of a channel that has this next channel
  abbrev pub claim_with : State → ℕ → Channel → Option Channel → Claim
  claim_with F r c None = Waits (ask F r c)
  claim_with F r c (Some o) =
      Holds (output_index net.relation.grid net.relation.vcs o) (has_credit_in F o)

  -- what c, which ends at router r, can go on with
  abbrev pub claim_of : State → ℕ → Channel → Claim
  claim_of F r c = if has_channel F.routed c then claim_with F r c (next_channel F c) else Unrouted

  -- where an input channel stands; none arrives at a port without a link
  abbrev pub stand_of : State → ℕ → Option Channel → Stand
  stand_of F r None = record { claim = Unrouted; has_flit = false }
  stand_of F r (Some c) = record { claim = claim_of F r c; has_flit = nat_lt 0 (count_in F c) }

  -- where each input channel of router r stands
  abbrev pub stands_at : State → ℕ → List Stand
  stands_at F r = tabulate size (λ i. stand_of F r (arriving r i))

  -- the arbiters of router r
  abbrev pub arbiters_at : State → ℕ → ArbiterStates
  arbiters_at F r =
      slice_index_or F.arbiters r (record { channels = []; inputs = []; outputs = [] })

  -- what the arbiters of router r decide
  abbrev pub round_at : State → ℕ → Round
  round_at F r =
      round_of (ports net.relation.grid) net.relation.vcs (stands_at F r) (arbiters_at F r)

  -- the verdict of c, which arrives at this router and port
  abbrev pub verdict_at : State → Channel → Option (ℕ × ℕ) → Verdict
  verdict_at F c None = Empty
  verdict_at F c (Some input) =
      verdict_of net.relation.vcs (round_at F input.0) (input.1 * net.relation.vcs + channel_vc c)
      (claim_of F input.0 c) (nat_lt 0 (count_in F c))

  -- the verdict of c (docs/MODEL.md, "Verdicts")
  abbrev pub verdict_in : State → Channel → Verdict
  verdict_in F c = verdict_at F c (arrival_of net.relation.grid c)

  -- ---- phase five: the verdicts take effect

  -- where a flit goes that leaves the buffer of c in cycle n for this channel
  abbrev pub gone_to : ℕ → Channel → Option Channel → Place
  gone_to n c None = In c
  gone_to n c (Some (Link r p v)) = On (Link r p v)
  gone_to n c (Some (Inject m v)) = In c
  gone_to n c (Some (Eject m v)) = Out n

  -- where flit f goes, which is at this place: the first flit of a buffer whose
  -- verdict is Moved goes on
  abbrev pub moved_place : State → ℕ → Located → Place → Place
  moved_place F n f Source = Source
  moved_place F n f (On c) = On c
  moved_place F n f (In c) =
      if is_moved (verdict_in F c) && is_the_flit f (front_in F c)
      then gone_to n c (next_channel F c) else In c
  moved_place F n f (Out m) = Out m

  -- whether it is the tail of its packet
  abbrev pub is_tail_of_packet : Option Located → Bool
  is_tail_of_packet None = false
  is_tail_of_packet (Some f) = nat_eq (f.index + 1) (packet_at f.packet).length

  -- whether a tail leaves the buffer of c
  abbrev pub tail_leaves : State → Channel → Bool
  tail_leaves F c = is_moved (verdict_in F c) && is_tail_of_packet (front_in F c)

  -- whether a tail leaves the buffer of c for channel o
  abbrev pub tail_leaves_to : State → Channel → Channel → Bool
  tail_leaves_to F o c =
      tail_leaves F c && unwrap_or (option_map (same_channel o) (next_channel F c)) false

  -- an injection channel that the tail leaves, and an ejection channel by which it
  -- is out, are idle at once
  abbrev pub is_released : State → Channel × ℕ → Bool
  is_released F (Link r p v, q) = false
  is_released F (Inject m v, q) = tail_leaves F (Inject m v)
  is_released F (Eject m v, q) = list_any (tail_leaves_to F (Eject m v)) (owned_by F q)

  -- the channel that the owner of c is granted, and that owner; c ends at router r
  abbrev pub grant_to_owner : State → Channel → ℕ → ℕ → Option (Channel × ℕ)
  grant_to_owner F c r p = option_map (λ o. (leaving r o, p)) (ask F r c)

  -- the channel that the owner of c is granted, and that owner, where the verdict of c is Granted
  abbrev pub granted_pair : State → Channel → Option (Channel × ℕ)
  granted_pair F c =
      if is_granted (verdict_in F c)
      then option_and_then (λ r. option_and_then (grant_to_owner F c r) (owner_of F c))
      (end_of net.relation c)
      else None

  -- the state after the verdicts of cycle n, which were all taken from F
  unfoldable pub after_verdicts : ℕ → State → State
  after_verdicts n F = record {
    at = map (λ (f : Located). record f { place = moved_place F n f f.place }) F.at;
    own = filter (λ pair. not (is_released F pair)) F.own ++ filter_map (granted_pair F) all_inputs;
    routed = filter (λ c. not (tail_leaves F c)) F.routed
        ++ filter (λ c. is_routed (verdict_in F c)) all_inputs;
    back = filter (λ c. is_link c && is_moved (verdict_in F c)) all_inputs;
    arbiters = map_indexed (λ r arbiters. arbiters_after (round_at F r) arbiters) F.arbiters;
  }

  -- ---- the run

  -- cycle n
  unfoldable pub network_cycle : ℕ → State → State
  network_cycle n S = after_verdicts n (frozen_state n S)

  -- the state at the start of cycle n
  unfoldable pub state_at : ℕ → State
  state_at zero = opening_state
  state_at (suc n) = network_cycle n (state_at n)

  -- the frozen state of cycle n
  abbrev pub frozen_at : ℕ → State
  frozen_at n = frozen_state n (state_at n)

  -- the cycle in which the tail of p was out
  abbrev pub arrival_in : State → ℕ → Option ℕ
  arrival_in S p = out_cycle (tail_place S p)

  -- the verdict of input channel i of router r in cycle n, Empty where no channel arrives there
  abbrev pub verdict_in_cycle : ℕ → ℕ → ℕ → Verdict
  verdict_in_cycle n r i = unwrap_or (option_map (verdict_in (frozen_at n)) (arriving r i)) Empty
