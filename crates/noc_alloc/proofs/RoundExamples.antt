-- Rounds of arbiters and allocators that were worked out by hand.
use Rattle.std.proofs.Common.{◌≡◌, ℕ, ◌+◌, ◌^◌, List, [], ◌∷◌, get_or, Option, Some, None, refl}
use Rattle.noc_topo.specs.Lists.{below, tabulate, map_indexed, least_by}
use Rattle.noc_packet.specs.Set.{has_bit}
use Rattle.noc_alloc.specs.Arbiter.{RoundRobin, first_in_turn, pointer_after, pointers_of}
use Rattle.noc_alloc.specs.Allocation.{grant_of, pick_of, winner_of, winning_pick, arbiters_after_winners}

-- 0, 2 and 4 ask an arbiter of size 5: the bits are 1 + 4 + 16
pub four-from_3 : first_in_turn 5 3 (has_bit 21) ≡ Some 4
unfolding first_in_turn below least_by
four-from_3 = refl

pub past_four : pointer_after 5 3 (Some 4) ≡ 0
past_four = refl

pub zero-from_0 : first_in_turn 5 0 (has_bit 21) ≡ Some 0
unfolding first_in_turn below least_by
zero-from_0 = refl

pub nobody-asks : first_in_turn 5 0 (has_bit 0) ≡ None
unfolding first_in_turn below least_by
nobody-asks = refl

-- 0 and 54 ask an arbiter of size 56
pub zero-from_55 : first_in_turn 56 55 (has_bit (1 + 2 ^ 54)) ≡ Some 0
unfolding first_in_turn below least_by
zero-from_55 = refl

-- three ports of two virtual channels: (0,0) goes to output 2, (0,1) to output 1, (1,0) to output 2
abbrev ready : List (Option ℕ)
ready = Some 2 ∷ Some 1 ∷ Some 2 ∷ None ∷ None ∷ None ∷ []

abbrev picks : List (Option ℕ)
picks = Some 0 ∷ Some 0 ∷ None ∷ []

abbrev wins : List (Option ℕ)
wins = None ∷ None ∷ Some 1 ∷ []

abbrev inputs : List RoundRobin
inputs = record { size = 2; pointer = 0 } ∷ record { size = 2; pointer = 0 } ∷ record { size = 2; pointer = 0 } ∷ []

abbrev outputs : List RoundRobin
outputs = record { size = 3; pointer = 0 } ∷ record { size = 3; pointer = 0 } ∷ record { size = 3; pointer = 1 } ∷ []

pub first_channels-picked : tabulate 3 (pick_of ready 2 (pointers_of inputs)) ≡ picks
unfolding tabulate first_in_turn below least_by
first_channels-picked = refl

pub port_1-wins : tabulate 3 (winner_of ready 2 3 picks (pointers_of outputs)) ≡ wins
unfolding tabulate first_in_turn below least_by
port_1-wins = refl

pub input_pointers : pointers_of (arbiters_after_winners (winning_pick picks wins) inputs) ≡ 0 ∷ 1 ∷ 0 ∷ []
unfolding map_indexed
input_pointers = refl

pub output_pointers : pointers_of (arbiters_after_winners (λ p. get_or wins p None) outputs) ≡ 0 ∷ 0 ∷ 2 ∷ []
unfolding map_indexed
output_pointers = refl

-- input channels 1 and 3 ask for output channel 1 of three, and 4 for 0
abbrev asks : List (Option ℕ)
asks = None ∷ Some 1 ∷ None ∷ Some 1 ∷ Some 0 ∷ []

pub first-granted : tabulate 3 (grant_of asks 5 (0 ∷ 0 ∷ 0 ∷ [])) ≡ Some 4 ∷ Some 1 ∷ None ∷ []
unfolding tabulate first_in_turn below least_by
first-granted = refl

pub then-granted : tabulate 3 (grant_of asks 5 (0 ∷ 2 ∷ 0 ∷ [])) ≡ Some 4 ∷ Some 3 ∷ None ∷ []
unfolding tabulate first_in_turn below least_by
then-granted = refl
