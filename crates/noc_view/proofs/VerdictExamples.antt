-- One round of a switch of three ports with two virtual channels each.
use Rattle.std.proofs.Common.{◌≡◌, ℕ, true, false, List, [], ◌∷◌, Some, None, refl}
use Rattle.noc_topo.specs.Lists.{below, tabulate, map_indexed, least_by}
use Rattle.noc_view.specs.Verdict.{ArbiterStates, Unrouted, Waits, Holds, Stand, round_of, verdict_of, arbiters_after, opening_arbiters}
use Rattle.noc_view.specs.Verdict.{first_in_turn}
use Rattle.noc_alloc.specs.Arbiter.{pointers_of}
use Rattle.noc_view.specs.declared.verdict.Verdict.{Verdict}
use Rattle.noc_view.specs.declared.verdict.Verdict.TheVariants.{Empty, Granted, Moved, NoFlit, NoIdleChannel, LostChannel, NoCredit, LostInput, LostSwitch}

-- channels 0 and 1 of port 0 go to output ports 2 and 1, channel 0 of port 1 to output port 2, and
-- the others are empty
abbrev pub sending : List Stand
sending = record { claim = Holds 4 true; has_flit = true } ∷ record { claim = Holds 2 true; has_flit = true } ∷ record { claim = Holds 5 true; has_flit = true }
    ∷ record { claim = Unrouted; has_flit = false } ∷ record { claim = Unrouted; has_flit = false } ∷ record { claim = Unrouted; has_flit = false } ∷ []

-- all pointers at 0, but that of output port 2 at 1
abbrev pub pointing : ArbiterStates
pointing = record (opening_arbiters 3 2) {
  outputs = record { size = 3; pointer = 0 } ∷ record { size = 3; pointer = 0 } ∷ record { size = 3; pointer = 1 } ∷ [];
}

-- the verdicts of these input channels, and the pointers of the input ports and of the output ports
-- afterwards; to open it is to open all that a round is computed by
unfoldable pub verdicts : List Stand → ArbiterStates → List Verdict
unfolding below tabulate map_indexed least_by first_in_turn
verdicts stands arbiters = map_indexed (λ i (stand : Stand). verdict_of 2 (round_of 3 2 stands arbiters) i stand.claim stand.has_flit) stands

abbrev pub pointers : ArbiterStates → List (List ℕ)
pointers arbiters = pointers_of arbiters.inputs ∷ pointers_of arbiters.outputs ∷ []

-- port 1 wins output port 2; of port 0 channel 0 was picked and lost the switch, so channel 1 lost
-- to it at the input
switch-verdicts : verdicts sending pointing ≡ LostSwitch ∷ LostInput ∷ Moved ∷ Empty ∷ Empty ∷ Empty ∷ []
unfolding verdicts
switch-verdicts = refl

-- the pointer of port 0 stays, since its pick did not win
switch-pointers : pointers (arbiters_after (round_of 3 2 sending pointing) pointing) ≡ (0 ∷ 1 ∷ 0 ∷ []) ∷ (0 ∷ 0 ∷ 2 ∷ []) ∷ []
unfolding verdicts
switch-pointers = refl

-- what is missing first names the stall: a flit, then a credit, then the switch
stalls : verdicts
    (record { claim = Holds 4 false; has_flit = false } ∷ record { claim = Holds 4 false; has_flit = true } ∷ record { claim = Waits None; has_flit = true }
    ∷ record { claim = Waits (Some 0); has_flit = true } ∷ record { claim = Waits (Some 0); has_flit = true } ∷ record { claim = Unrouted; has_flit = false } ∷ [])
    (opening_arbiters 3 2)
    ≡ NoFlit ∷ NoCredit ∷ NoIdleChannel ∷ Granted ∷ LostChannel ∷ Empty ∷ []
unfolding verdicts
stalls = refl
