-- One router alone, over beats that fit and beats that do not.
use Rattle.std.proofs.Common.{◌≡◌, ℕ, zero, suc, List, [], ◌∷◌, ◌++◌, Option, Some, None, true, false, refl, map}
use Rattle.std.specs.Prelude.{slice_index_or, ◌^◌, ◌-◌, replicate, nat_eq, if◌then◌else◌}
use Rattle.noc_topo.specs.Lists.{below, tabulate, map_indexed, least_by}
use Rattle.noc_packet.specs.declared.packet.Beat.{Beat}
use Rattle.noc_route.specs.Routes.{Routes}
use Rattle.noc_view.specs.Verdict.{first_in_turn}
use Rattle.noc_view.specs.View.{View, view_after_take, view_after_takes, view_after_inject, view_round, decisions_of, view_after_commit, local_step, opening_view, idle_beat, counts_after}
use Rattle.noc_view.specs.declared.verdict.Verdict.TheVariants.{Empty, Moved}
use Rattle.noc_view.specs.declared.finding.Finding.{Finding}

-- two nodes in a line, dimension order, one virtual channel: for each node and destination, the set
-- at the three input channels
abbrev pub one_channel : Routes
one_channel = record {
  grid = record { wraps = false; radix = 2 ∷ [] };
  vcs = 1;
  classes = 1;
  sets = replicate 3 4 ++ replicate 3 1 ++ replicate 3 2 ++ replicate 3 4;
}

-- two nodes in a line with two virtual channels: the set at the six input channels
abbrev pub two_channels : Routes
two_channels = record {
  grid = record { wraps = false; radix = 2 ∷ [] };
  vcs = 2;
  classes = 1;
  sets = replicate 6 48 ++ replicate 6 3 ++ replicate 6 12 ++ replicate 6 48;
}

-- to open it is to open all that a step is computed by
unfoldable pub view_after : Routes → View → List Beat → ℕ → View
unfolding below tabulate map_indexed least_by first_in_turn view_after_take view_after_takes view_after_inject view_round decisions_of view_after_commit local_step
view_after relation v beats n = (local_step relation v beats n).0

-- router 0 of the line, one place in each buffer, no packets
abbrev pub alone : View
alone = opening_view (record { grid = one_channel.grid; node = 0; vcs = 1; depth = 1 }) [] []

-- a flit of packet 7 to node 0, on this channel and with this index
abbrev pub stray : ℕ → ℕ → Option ℕ → List Beat
stray vc index credit = record { flit = Some (vc, record { packet = 7; index = index; last = true; dst = 0; class = 0 }); credit = credit } ∷ idle_beat ∷ []

-- a flit that no head was before, and a credit past the greatest count, are two misfits
unexpected-misfits : (view_after one_channel alone (stray 0 1 (Some 0)) 0).misfits ≡ 2
unfolding view_after
unexpected-misfits = refl

unexpected-verdicts : map (λ (f : Finding). f.verdict) (view_after one_channel alone (stray 0 1 (Some 0)) 0).findings ≡ Empty ∷ Empty ∷ Empty ∷ []
unfolding view_after
unexpected-verdicts = refl

-- then a flit on a channel that does not exist
unexpected-next : (view_after one_channel (view_after one_channel alone (stray 0 1 (Some 0)) 0) (stray 1 0 None) 1).misfits ≡ 3
unfolding view_after
unexpected-next = refl

-- a head that is expected, of a packet that was not built to end here: it goes out in the third
-- cycle, and is a misfit then
abbrev pub after_head : ℕ → View
after_head zero = view_after one_channel alone (stray 0 0 None) 0
after_head (suc n) = view_after one_channel (after_head n) (idle_beat ∷ idle_beat ∷ []) (suc n)

stranger-misfits : map (λ n. (after_head n).misfits) (below 4) ≡ 0 ∷ 0 ∷ 1 ∷ 1 ∷ []
unfolding view_after
stranger-misfits = refl

-- two packets of one flit from node 0 to node 1, over two channels, with idle beats alone
abbrev pub by_itself : ℕ → View
by_itself zero = opening_view (record { grid = two_channels.grid; node = 0; vcs = 2; depth = 2 })
    ((0, record { source = 0; destination = 1; class = 0; length = 1; due = 0 }) ∷ (1, record { source = 0; destination = 1; class = 0; length = 1; due = 0 }) ∷ [])
    []
by_itself (suc n) = view_after two_channels (by_itself n) (idle_beat ∷ idle_beat ∷ []) n

by_itself-counts : map (λ i. slice_index_or (by_itself 12).counts i []) (4 ∷ 5 ∷ [])
    ≡ (9 ∷ 1 ∷ 1 ∷ 1 ∷ 0 ∷ 0 ∷ 0 ∷ 0 ∷ 0 ∷ 0 ∷ []) ∷ (9 ∷ 1 ∷ 1 ∷ 1 ∷ 0 ∷ 0 ∷ 0 ∷ 0 ∷ 0 ∷ 0 ∷ []) ∷ []
unfolding view_after
by_itself-counts = refl

-- counts that add up to the greatest number of 64 bits stay
counted-greatest : counts_after Moved ((2 ^ 64 - 4) ∷ 1 ∷ 1 ∷ 1 ∷ replicate 6 0) ≡ (2 ^ 64 - 4) ∷ 1 ∷ 1 ∷ 1 ∷ replicate 6 0
counted-greatest = refl

-- a packet that was built to end here comes twice: its first arrival stays, and the second is a
-- misfit
abbrev pub twice : ℕ → View
twice zero = view_after one_channel (opening_view (record { grid = one_channel.grid; node = 0; vcs = 1; depth = 1 }) [] (7 ∷ [])) (stray 0 0 None) 0
twice (suc n) = view_after one_channel (twice n) (if nat_eq n 2 then stray 0 0 None else (idle_beat ∷ idle_beat ∷ [])) (suc n)

twice-arrival : (twice 6).ends ≡ (7, Some 2) ∷ []
unfolding view_after
twice-arrival = refl

twice-misfits : (twice 6).misfits ≡ 1
unfolding view_after
twice-misfits = refl
