-- The verdicts of one router in one cycle, from where each of its input channels stands.
-- Both the state of the whole network and the view of one router are read by these definitions.
use Rattle.std.specs.Prelude.{ℕ, ◌*◌, ◌/◌, ◌%◌, Bool, true, false, List, map, replicate, Option, Some, None, slice_index_or, if◌then◌else◌}
use Rattle.noc_topo.specs.Lists.{tabulate, is_some_of}
use Rattle.noc_alloc.specs.Arbiter.{RoundRobin, pointers_of}
use Rattle.noc_alloc.specs.Allocation.{grant_of, pick_of, winner_of, winning_pick, arbiters_after_winners}
use Rattle.noc_view.specs.declared.verdict.Verdict.{Verdict}
use Rattle.noc_view.specs.declared.verdict.Verdict.TheVariants.{Empty, Routed, Granted, Moved, NoFlit, NoIdleChannel, LostChannel, NoCredit, LostInput, LostSwitch}
unfoldable pub use Rattle.noc_alloc.specs.Arbiter.{first_in_turn}

-- the arbiters of one router (docs/MODEL.md, "Arbiters"; Dally and Towles, chapter 18)
pub record ArbiterStates : Type 0 where
  pub channels : List RoundRobin  -- of each output channel, over the input channels
  pub inputs : List RoundRobin  -- of each input port, over its virtual channels
  pub outputs : List RoundRobin  -- of each output port, over the input ports

-- all pointers at 0
abbrev pub opening_arbiters : ℕ → ℕ → ArbiterStates
opening_arbiters ports vcs = record {
  channels = replicate (ports * vcs) (record { size = ports * vcs; pointer = 0 });
  inputs = replicate ports (record { size = vcs; pointer = 0 });
  outputs = replicate ports (record { size = ports; pointer = 0 });
}

-- what an input channel can go on with: nothing routed, a wait for the output channel that it asks
-- for, or the output channel that its packet owns, with whether that has a credit
pub data Claim : Type 0 where
  Unrouted : Claim
  Waits : (ask : Option ℕ) → Claim
  Holds : (next : ℕ) (credit : Bool) → Claim

-- where an input channel stands once landings, credits and injections are done
pub record Stand : Type 0 where
  pub claim : Claim
  pub has_flit : Bool

-- the output channel that is asked for
abbrev pub ask_of : Claim → Option ℕ
ask_of Unrouted = None
ask_of (Waits ask) = ask
ask_of (Holds next credit) = None

-- the output channel that is asked for or owned
abbrev pub out_of : Claim → Option ℕ
out_of Unrouted = None
out_of (Waits ask) = ask
out_of (Holds next credit) = Some next

-- the output port to which a flit can go: it is there, and its output channel has a credit
abbrev pub ready_port : ℕ → Claim → Bool → Option ℕ
ready_port vcs (Holds next true) true = Some (next / vcs)
ready_port vcs (Holds next true) false = None
ready_port vcs (Holds next false) has_flit = None
ready_port vcs Unrouted has_flit = None
ready_port vcs (Waits ask) has_flit = None

-- the output channel that each input channel asks for
abbrev pub asks_of : List Stand → List (Option ℕ)
asks_of stands = map (λ (stand : Stand). ask_of stand.claim) stands

-- the output port to which each input channel can send
abbrev pub ready_of : ℕ → List Stand → List (Option ℕ)
ready_of vcs stands = map (λ (stand : Stand). ready_port vcs stand.claim stand.has_flit) stands

-- what the arbiters of one router decide in one cycle (Dally and Towles, chapter 19)
pub record Round : Type 0 where
  pub grants : List (Option ℕ)  -- for each output channel, the input channel
  pub picks : List (Option ℕ)  -- for each input port, the virtual channel
  pub wins : List (Option ℕ)  -- for each output port, the input port

-- one round, input first (docs/MODEL.md, "Arbiters")
abbrev pub round_of : ℕ → ℕ → List Stand → ArbiterStates → Round
round_of ports vcs stands arbiters =
    let ready = ready_of vcs stands in
    let picks = tabulate ports (pick_of ready vcs (pointers_of arbiters.inputs)) in
    record {
      grants = tabulate (ports * vcs)
          (grant_of (asks_of stands) (ports * vcs) (pointers_of arbiters.channels));
      picks = picks;
      wins = tabulate ports (winner_of ready vcs ports picks (pointers_of arbiters.outputs));
    }

-- the verdict of input channel i: the first condition that fails (docs/MODEL.md, "Verdicts"; Dally
-- and Towles, chapter 16)
abbrev pub verdict_of : ℕ → Round → ℕ → Claim → Bool → Verdict
verdict_of vcs round i Unrouted false = Empty
verdict_of vcs round i Unrouted true = Routed
verdict_of vcs round i (Waits None) has_flit = NoIdleChannel
verdict_of vcs round i (Waits (Some o)) has_flit =
    if is_some_of (slice_index_or round.grants o None) i then Granted else LostChannel
verdict_of vcs round i (Holds o credit) false = NoFlit
verdict_of vcs round i (Holds o false) true = NoCredit
verdict_of vcs round i (Holds o true) true =
    if is_some_of (slice_index_or round.picks (i / vcs) None) (i % vcs)
    then (if is_some_of (slice_index_or round.wins (o / vcs) None) (i / vcs) then Moved
    else LostSwitch)
    else LostInput

-- the verdict by which a head is routed
abbrev pub is_routed : Verdict → Bool
is_routed Routed = true
is_routed _ = false

-- the verdict by which a packet gets an output channel
abbrev pub is_granted : Verdict → Bool
is_granted Granted = true
is_granted _ = false

-- the verdict by which a flit leaves
abbrev pub is_moved : Verdict → Bool
is_moved Moved = true
is_moved _ = false

-- a route, a grant or a move is an event
abbrev pub is_event : Verdict → Bool
is_event Routed = true
is_event Granted = true
is_event Moved = true
is_event _ = false

-- the index of a verdict in the order of the stall report
abbrev pub column : Verdict → ℕ
column Empty = 0
column Routed = 1
column Granted = 2
column Moved = 3
column NoFlit = 4
column NoIdleChannel = 5
column LostChannel = 6
column NoCredit = 7
column LostInput = 8
column LostSwitch = 9

-- each pointer moves to one past the winner; that of an input port only where its pick also won an
-- output port
abbrev pub arbiters_after : Round → ArbiterStates → ArbiterStates
arbiters_after round arbiters = record {
  channels = arbiters_after_winners (λ o. slice_index_or round.grants o None) arbiters.channels;
  inputs = arbiters_after_winners (winning_pick round.picks round.wins) arbiters.inputs;
  outputs = arbiters_after_winners (λ port. slice_index_or round.wins port None) arbiters.outputs;
}
