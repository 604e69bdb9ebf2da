-- What one router can see, and one cycle of it over any beats (docs/MODEL.md, "One router"; Dally
-- and Towles, chapter 16).
use Rattle.std.specs.Prelude.{◌≡◌, ℕ, ◌+◌, ◌-◌, ◌*◌, ◌/◌, ◌%◌, ◌^◌, Bool, true, false, ◌&&◌, ◌||◌, not, List, [], ◌∷◌, ◌++◌, map, drop, find, sum, length, Option, Some, None, option_map, option_and_then, is_some, unwrap_or, slice_get, slice_index, slice_index_or, slice_set, min, nat_lt, nat_le, if◌then◌else◌, replicate}
use Rattle.std.specs.List.{list_any}
use Rattle.noc_topo.specs.Lists.{below, tabulate, map_indexed, is_some_of}
use Rattle.noc_topo.specs.Shape.{Grid, ports, local_port, neighbour}
use Rattle.noc_packet.specs.Packet.{flit_at}
use Rattle.noc_packet.specs.Set.{has_bit}
use Rattle.noc_packet.specs.declared.packet.Packet.{Packet}
use Rattle.noc_packet.specs.declared.packet.Flit.{Flit}
use Rattle.noc_packet.specs.declared.packet.Beat.{Beat}
use Rattle.noc_route.specs.Routes.{Routes, set_at}
use Rattle.noc_vc.specs.Input.{Input, idle_input, is_idle_phase, is_empty, fits, input_after_land, input_after_route, input_after_grant, input_after_send}
use Rattle.noc_vc.specs.Output.{Output, link_output, ejection_output, is_free, credit_fits, output_after_credit, has_credit, output_after_hold, output_after_spend}
use Rattle.noc_vc.specs.declared.input.InputState.{InputState}
use Rattle.noc_vc.specs.declared.input.InputState.TheVariants.{Idle, Waiting, Active}
use Rattle.noc_view.specs.Arrivals.{is_expected_in, arrivals_after}
use Rattle.noc_view.specs.Verdict.{ArbiterStates, opening_arbiters, Claim, Unrouted, Waits, Holds, Stand, ask_of, asks_of, out_of, Round, round_of, verdict_of, is_moved, is_event, column, arbiters_after}
use Rattle.noc_view.specs.declared.verdict.Verdict.{Verdict}
use Rattle.noc_view.specs.declared.verdict.Verdict.TheVariants.{Empty, Routed, Granted, Moved}
use Rattle.noc_view.specs.declared.finding.Finding.{Finding}

-- what a router is built for, which never changes
pub record Site : Type 0 where
  pub grid : Grid
  pub node : ℕ
  pub vcs : ℕ  -- virtual channels of each port
  pub depth : ℕ  -- of each buffer, in flits

-- what one router can see; lists of channels go by index port*V + vc, lists of ports by port
pub record View : Type 0 where
  pub site : Site
  pub buffers : List (List Flit)  -- of each input channel
  pub inputs : List Input
  pub outputs : List Output
  pub arbiters : ArbiterStates
  pub queue : List (ℕ × Packet)  -- packets with a flit at the source, numbered and in their order
  pub sending : Option (ℕ × ℕ)  -- once the first has begun, its channel and next index
  pub ends : List (ℕ × Option ℕ)  -- packets that were built to end here, with their arrivals
  pub misfits : ℕ
  pub last_event : Option ℕ
  pub counts : List (List ℕ)  -- of each input channel, how often it had each verdict
  pub findings : List Finding  -- by input channel, of the last cycle, if any
  pub given : ℕ  -- the cycle last given to `inject`
  pub had_event : Bool  -- whether the cycle that goes on had an event before its verdicts
  pub to_put : List Beat  -- for each link port, the beat that is still to be put

-- what one router decides in one cycle: what its arbiters decide, what it finds, and where each
-- head may go that it routes
pub record Decisions : Type 0 where
  pub round : Round
  pub findings : List Finding
  pub routes : List ℕ  -- by input channel, the permitted set where its verdict is Routed, else 0

-- a relation on the router's shape, with as many channels
pub record IsRelationOf (relation : Routes) (v : View) : Type 0 where
  pub grid : relation.grid ≡ v.site.grid
  pub vcs : relation.vcs ≡ v.site.vcs

-- how many input channels a router has, and as many output channels
abbrev pub size_of : Site → ℕ
size_of site = ports site.grid * site.vcs

-- whether the port has a link
abbrev pub has_link : Site → ℕ → Bool
has_link site port = is_some (neighbour site.grid site.node port)

-- the beat that carries nothing
abbrev pub idle_beat : Beat
idle_beat = record { flit = None; credit = None }

-- one for each link port
abbrev pub idle_beats : Site → List Beat
idle_beats site = replicate (local_port site.grid) idle_beat

-- the flits in the buffer of input channel i, none where it does not exist
abbrev pub view_buffer : View → ℕ → List Flit
view_buffer v i = slice_index_or v.buffers i []

-- the input channel with this index, an idle one where it does not exist
abbrev pub view_input : View → ℕ → Input
view_input v i = slice_index_or v.inputs i idle_input

-- the output channel with this index
abbrev pub view_output : View → ℕ → Output
view_output v o = slice_index_or v.outputs o ejection_output

-- a counter at the greatest value of 64 bits stays there
abbrev pub saturating_next : ℕ → ℕ
saturating_next n = min (n + 1) (2 ^ 64 - 1)

-- one misfit more (docs/MODEL.md, "Misfits")
abbrev pub with_misfit : View → View
with_misfit v = record v { misfits = saturating_next v.misfits }

-- ---- a beat is taken

-- a flit is in the buffer of input channel i
abbrev pub with_landed : ℕ → Flit → View → View
with_landed i f v = record v {
  buffers = slice_set v.buffers i (view_buffer v i ++ f ∷ []);
  inputs = slice_set v.inputs i (input_after_land (view_input v i) f);
  had_event = true;
}

-- a flit lands where it fits (Dally and Towles, chapter 17)
abbrev pub with_flit : Routes → ℕ → Option (ℕ × Flit) → View → View
with_flit relation port None v = v
with_flit relation port (Some (vc, f)) v =
    let i = port * v.site.vcs + vc in
    if has_link v.site port && nat_lt vc v.site.vcs
    && fits relation v.site.node port vc v.site.depth (view_buffer v i) (view_input v i) f
    then with_landed i f v
    else with_misfit v

-- a credit arrives where it fits (Dally and Towles, chapter 13)
abbrev pub with_credit : ℕ → Option ℕ → View → View
with_credit port None v = v
with_credit port (Some vc) v =
    let o = port * v.site.vcs + vc in
    if has_link v.site port && nat_lt vc v.site.vcs && credit_fits (view_output v o)
    then record v {
      outputs = slice_set v.outputs o (output_after_credit (view_output v o));
      had_event = true;
    }
    else with_misfit v

-- after `take`: the flit and the credit of a beat, each by itself
unfoldable pub view_after_take : Routes → ℕ → Beat → View → View
view_after_take relation port beat v =
    with_credit port beat.credit (with_flit relation port beat.flit v)

-- after a `take` of each beat, at this port and those behind it
abbrev pub view_after_takes_from : Routes → ℕ → List Beat → View → View
view_after_takes_from relation port [] v = v
view_after_takes_from relation port (beat ∷ beats) v =
    view_after_takes_from relation (port + 1) beats (view_after_take relation port beat v)

-- after a `take` at each link port, from port 0 on
unfoldable pub view_after_takes : Routes → List Beat → View → View
view_after_takes relation beats v = view_after_takes_from relation 0 beats v

-- ---- the source injects at most one flit

-- the index of a local virtual channel
abbrev pub local_channel : Site → ℕ → ℕ
local_channel site vc = local_port site.grid * site.vcs + vc

-- flit `index` of the first packet of the queue goes to local virtual channel vc
abbrev pub with_injected : ℕ → ℕ → ℕ → Packet → List (ℕ × Packet) → View → View
with_injected vc index packet p rest v =
    let f = flit_at p packet index in
    record (with_landed (local_channel v.site vc) f v) {
      queue = if f.last then rest else v.queue;
      sending = if f.last then None else Some (vc, index + 1);
    }

-- whether local virtual channel vc is idle and has an empty buffer
abbrev pub is_vacant : View → ℕ → Bool
is_vacant v vc =
    is_idle_phase (view_input v (local_channel v.site vc)).phase
    && is_empty (view_buffer v (local_channel v.site vc))

-- the first packet begins on this local virtual channel, if there is one
abbrev pub begun_on : Option ℕ → ℕ → Packet → List (ℕ × Packet) → View → View
begun_on None packet p rest v = v
begun_on (Some vc) packet p rest v = with_injected vc 0 packet p rest v

-- the first packet goes on where its buffer has room; one that is due begins on the lowest vacant
-- local channel
abbrev pub view_after_inject_from : ℕ → List (ℕ × Packet) → Option (ℕ × ℕ) → View → View
view_after_inject_from n [] sending v = v
view_after_inject_from n ((packet, p) ∷ rest) (Some (vc, index)) v =
    if nat_lt (length (view_buffer v (local_channel v.site vc))) v.site.depth
    then with_injected vc index packet p rest v else v
view_after_inject_from n ((packet, p) ∷ rest) None v =
    if nat_le p.due n then begun_on (find (is_vacant v) (below v.site.vcs)) packet p rest v else v

-- after `inject`
unfoldable pub view_after_inject : ℕ → View → View
view_after_inject n v = view_after_inject_from n v.queue v.sending (record v { given = n })

-- ---- what is decided, all from one frozen state

-- the idle output channel of a set with the least index
abbrev pub asked_for : View → ℕ → Option ℕ
asked_for v set =
    find (λ o. has_bit set o && is_free (view_output v o).holder) (below (size_of v.site))

-- what an input channel in this state can go on with
abbrev pub claim_in : View → InputState → Claim
claim_in v Idle = Unrouted
claim_in v (Waiting set) = Waits (asked_for v set)
claim_in v (Active o) = Holds o (has_credit (view_output v o))

-- what the input channel with this index can go on with
abbrev pub view_claim : View → ℕ → Claim
view_claim v i = claim_in v (view_input v i).phase

-- what the input channel with this index can go on with, and whether its buffer holds a flit
abbrev pub view_stand : View → ℕ → Stand
view_stand v i = record { claim = view_claim v i; has_flit = not (is_empty (view_buffer v i)) }

-- where each input channel stands
abbrev pub view_stands : View → List Stand
view_stands v = tabulate (size_of v.site) (view_stand v)

-- what the arbiters decide
unfoldable pub view_round : View → Round
view_round v = round_of (ports v.site.grid) v.site.vcs (view_stands v) v.arbiters

-- an output channel as port and virtual channel
abbrev pub port_and_vc : Site → ℕ → ℕ × ℕ
port_and_vc site o = (o / site.vcs, o % site.vcs)

-- what is found of input channel i: its verdict, its packet, and the output channel that the packet
-- asks for or owns
abbrev pub finding_of : Round → View → ℕ → Finding
finding_of round v i = record {
  verdict = verdict_of v.site.vcs round i (view_claim v i) (not (is_empty (view_buffer v i)));
  packet = (view_input v i).packet;
  out = option_map (port_and_vc v.site) (out_of (view_claim v i));
}

-- the set that the relation permits to a head in input channel i
abbrev pub route_for : Routes → View → ℕ → Option Flit → ℕ
route_for relation v i None = 0
route_for relation v i (Some f) =
    set_at relation f.class v.site.node (i / v.site.vcs) (i % v.site.vcs) f.dst

-- the first flit in the buffer of input channel i
abbrev pub first_flit : View → ℕ → Option Flit
first_flit v i = slice_get (view_buffer v i) 0

-- the set to which the head of input channel i is routed, where the channel is idle and holds one,
-- and else 0
abbrev pub route_of : Routes → View → ℕ → ℕ
route_of relation v i =
    if is_idle_phase (view_input v i).phase then route_for relation v i (first_flit v i) else 0

-- after `plan`
unfoldable pub decisions_of : Routes → View → Decisions
decisions_of relation v = record {
  round = view_round v;
  findings = tabulate (size_of v.site) (finding_of (view_round v) v);
  routes = tabulate (size_of v.site) (route_of relation v);
}

-- what a plan keeps of it: the packet of each channel and its output channel are those of the view
pub record PlanContents : Type 0 where
  pub round : Round
  pub asks : List (Option ℕ)  -- for each input channel, the output channel that it asks for
  pub verdicts : List Verdict
  pub routes : List ℕ

unfoldable pub plan_contents : Routes → View → PlanContents
plan_contents relation v = record {
  round = view_round v;
  asks = asks_of (view_stands v);
  verdicts = tabulate (size_of v.site) (λ i. (finding_of (view_round v) v i).verdict);
  routes = tabulate (size_of v.site) (route_of relation v);
}

-- ---- the verdicts take effect

-- the verdict of input channel i
abbrev pub decided_verdict : Decisions → ℕ → Verdict
decided_verdict d i =
    slice_index_or (map (λ (finding : Finding). finding.verdict) d.findings) i Empty

-- an input channel that was granted what it asked for
abbrev pub granted_to : Input → Option ℕ → Input
granted_to input None = input
granted_to input (Some o) = input_after_grant input o

-- an input channel that has sent its first flit
abbrev pub sent_from : Input → Option Flit → Input
sent_from input None = input
sent_from input (Some f) = input_after_send input f

-- an input channel with this verdict: routed, granted what it asks for, or with its first flit gone
abbrev pub input_after : Decisions → View → ℕ → Input → Verdict → Input
input_after d v i input Routed = input_after_route input (slice_index d.routes i)
input_after d v i input Granted = granted_to input (ask_of (view_claim v i))
input_after d v i input Moved = sent_from input (first_flit v i)
input_after d v i input _ = input

-- a buffer loses its first flit where the verdict is Moved
abbrev pub buffer_after : List Flit → Verdict → List Flit
buffer_after flits verdict = if is_moved verdict then drop 1 flits else flits

-- the input channel that moves a flit through an output port
abbrev pub mover : Site → Round → ℕ → Option ℕ
mover site round port =
    option_and_then (λ q. option_map (λ vc. q * site.vcs + vc) (slice_index_or round.picks q None))
    (slice_index_or round.wins port None)

-- the input channel that moves a flit to output channel o
abbrev pub mover_to : View → Round → ℕ → Option ℕ
mover_to v round o =
    option_and_then (λ i. if is_some_of (out_of (view_claim v i)) o then Some i else None)
    (mover v.site round (o / v.site.vcs))

-- an output channel that was granted to the packet of an input channel
abbrev pub held_by : View → Output → Option ℕ → Output
held_by v output None = output
held_by v output (Some i) = output_after_hold output i (unwrap_or (view_input v i).packet 0)

-- whether it is a tail
abbrev pub is_tail : Option Flit → Bool
is_tail None = false
is_tail (Some f) = f.last

-- an output channel by which the first flit of an input channel has left
abbrev pub spent_by : View → Output → Option ℕ → Output
spent_by v output None = output
spent_by v output (Some i) = output_after_spend (is_tail (first_flit v i)) output

-- an output channel is owned by the packet that it was granted to, and has lost the credit of a
-- flit that left by it
abbrev pub output_after : View → Round → ℕ → Output → Output
output_after v round o output =
    spent_by v (held_by v output (slice_index_or round.grants o None)) (mover_to v round o)

-- the virtual channel and the flit that leave by an output port
abbrev pub flit_out : View → Round → ℕ → Option (ℕ × Flit)
flit_out v round port =
    option_and_then (λ i. option_and_then
    (λ o. option_map (λ f. (o % v.site.vcs, f)) (first_flit v i)) (out_of (view_claim v i)))
    (mover v.site round port)

-- the beat for a link port: the flit that leaves by it, and the credit of the flit that leaves one
-- of its buffers
abbrev pub beat_out : Decisions → View → ℕ → Beat
beat_out d v port = record {
  flit = flit_out v d.round port;
  credit = find (λ vc. is_moved (decided_verdict d (port * v.site.vcs + vc))) (below v.site.vcs);
}

-- the packet whose tail leaves
abbrev pub tail_packet : Option (ℕ × Flit) → Option ℕ
tail_packet None = None
tail_packet (Some (vc, f)) = if f.last then Some f.packet else None

-- the first arrival of a packet that was built to end here stays, and every other one is a misfit
abbrev pub with_arrival : Option ℕ → View → View
with_arrival None v = v
with_arrival (Some p) v =
    if is_expected_in p v.ends then record v { ends = arrivals_after p v.given v.ends }
    else with_misfit v

-- one more cycle with this verdict; where the ten counts add up to the greatest number of 64 bits,
-- none rises any more
abbrev pub counts_after : Verdict → List ℕ → List ℕ
counts_after verdict counts =
    if nat_lt (sum counts) (2 ^ 64 - 1)
    then slice_set counts (column verdict) (slice_index counts (column verdict) + 1)
    else counts

-- whether the cycle that goes on has an event
abbrev pub has_event : Decisions → View → Bool
has_event d v = v.had_event || list_any (λ (finding : Finding). is_event finding.verdict) d.findings

-- after `commit`, with the decisions of this very view
unfoldable pub view_after_commit : Decisions → View → View
view_after_commit d v =
    with_arrival (tail_packet (flit_out v d.round (local_port v.site.grid))) (record v {
      buffers = map_indexed (λ i flits. buffer_after flits (decided_verdict d i)) v.buffers;
      inputs = map_indexed (λ i input. input_after d v i input (decided_verdict d i)) v.inputs;
      outputs = map_indexed (output_after v d.round) v.outputs;
      arbiters = arbiters_after d.round v.arbiters;
      last_event = if has_event d v then Some v.given else v.last_event;
      counts = map_indexed (λ i counts. counts_after (decided_verdict d i) counts) v.counts;
      findings = d.findings;
      had_event = false;
      to_put = tabulate (local_port v.site.grid) (beat_out d v);
    })

-- ---- beats are put

-- what `put` gives, and the view after it
abbrev pub beat_to_put : View → ℕ → Beat
beat_to_put v port = slice_index_or v.to_put port idle_beat

-- the view after `put`
abbrev pub view_after_put : ℕ → View → View
view_after_put port v = record v { to_put = slice_set v.to_put port idle_beat }

-- ---- one cycle

-- the view after cycle n over these beats, one for each link port, and the beats that go out
unfoldable pub local_step : Routes → View → List Beat → ℕ → View × List Beat
local_step relation v beats n =
    let frozen = view_after_inject n (view_after_takes relation beats v) in
    let after = view_after_commit (decisions_of relation frozen) frozen in
    (record after { to_put = idle_beats after.site }, after.to_put)

-- a new router: `starts` are the packets of its node in the order in which they are injected,
-- `ends` those that end there
abbrev pub opening_view : Site → List (ℕ × Packet) → List ℕ → View
opening_view site starts ends = record {
  site = site;
  buffers = replicate (size_of site) [];
  inputs = replicate (size_of site) idle_input;
  outputs = replicate (local_port site.grid * site.vcs) (link_output site.depth)
      ++ replicate site.vcs ejection_output;
  arbiters = opening_arbiters (ports site.grid) site.vcs;
  queue = starts;
  sending = None;
  ends = map (λ p. (p, None)) ends;
  misfits = 0;
  last_event = None;
  counts = replicate (size_of site) (replicate 10 0);
  findings = [];
  given = 0;
  had_event = false;
  to_put = idle_beats site;
}
