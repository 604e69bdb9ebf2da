-- The names that proofs of this crate cite most, passed on from one place. Declares nothing.
pub use Rattle.std.proofs.lemmas.Bool.{and_parts, cases_eq, cases_lt, eq-eqb, eqb-true, false≢true, le-leb, le-ltb, lt-leb, lt-ltb, ltb-true, ne_eqb, true≢false}
pub use Rattle.std.proofs.lemmas.List.{get_or-map, get_or-replicate, get_or_past, length-map}
pub use Rattle.std.proofs.lemmas.Nat.{div-add-mod', div-mul-add, div_below, mod-mul-add, mod_below, mul-add-lt, pow_below}
pub use Rattle.std.proofs.lemmas.Option.{none-some, same_Some}
pub use Rattle.noc_topo.specs.Lists.{Has, below, is_some_of, one_if, tabulate}
pub use Rattle.noc_topo.specs.Shape.{local_port, neighbour, nodes, ports}
pub use Rattle.noc_topo.proofs.LinkLemmas.{link_back}
pub use Rattle.noc_topo.proofs.ListLemmas.{get_or-map_indexed, get_or-tabulate, length-tabulate}
pub use Rattle.noc_packet.specs.Packet.{flit_at}
pub use Rattle.noc_packet.specs.Set.{IsLeast, has_bit}
pub use Rattle.noc_packet.specs.declared.packet.Beat.{Beat}
pub use Rattle.noc_packet.specs.declared.packet.Flit.{Flit}
pub use Rattle.noc_packet.specs.declared.packet.Packet.{Packet}
pub use Rattle.noc_packet.proofs.SetLemmas.{both_members, either_members, has_bit-zero, zero_from_none}
pub use Rattle.noc_route.specs.Channel.{Channel, Eject, Inject, Link, is_link}
pub use Rattle.noc_route.specs.Routes.{Routes}
pub use Rattle.noc_alloc.specs.Arbiter.{RoundRobin, arbiter_after, arbiter_at, pointer_after, pointers_of}
pub use Rattle.noc_alloc.specs.Members.{MembersAreBelow}
pub use Rattle.noc_alloc.specs.Requests.{is_given}
pub use Rattle.noc_vc.specs.Input.{Input, fits, idle_input, is_active, is_empty, is_idle_phase, is_waiting}
pub use Rattle.noc_vc.specs.Output.{Output, credit_fits, ejection_output, has_credit, is_free, output_after_credit}
pub use Rattle.noc_vc.specs.declared.input.InputState.{InputState}
pub use Rattle.noc_vc.specs.declared.input.InputState.TheVariants.{Active, Idle, Waiting}
pub use Rattle.noc_vc.specs.declared.output.OutputState.{OutputState}
pub use Rattle.noc_vc.specs.declared.output.OutputState.TheVariants.{Draining, Owned}
pub use Rattle.noc_view.specs.Arrivals.{arrivals_after, is_expected_in}
pub use Rattle.noc_view.specs.Found.{empty_finding}
pub use Rattle.noc_view.specs.States.{is_owned_from, is_supplied, is_won_from, owns}
pub use Rattle.noc_view.specs.Still.{IsHeldBefore, takes_effect}
pub use Rattle.noc_view.specs.Verdict.{ArbiterStates, Claim, Round, arbiters_after, ask_of, is_event, is_moved, out_of, ready_port}
pub use Rattle.noc_view.specs.View.{Decisions, Site, View, beat_out, begun_on, claim_in, counts_after, decided_verdict, finding_of, first_flit, flit_out, has_event, idle_beat, is_tail, is_vacant, local_channel, mover, mover_to, route_of, size_of, tail_packet, view_after_inject_from, view_buffer, view_claim, view_input, view_output, view_stands, with_arrival, with_injected, with_misfit}
unfoldable pub use Rattle.noc_view.specs.View.{decisions_of, local_step, view_after_commit, view_after_inject, view_after_takes, view_round}
pub use Rattle.noc_view.specs.declared.finding.Finding.{Finding}
pub use Rattle.noc_view.specs.declared.verdict.Verdict.{Verdict}
pub use Rattle.noc_view.specs.declared.verdict.Verdict.TheVariants.{Empty, Granted, LostChannel, LostInput, LostSwitch, Moved, NoCredit, NoFlit, NoIdleChannel, Routed}
pub use Rattle.noc_view.proofs.PlanLemmas.{lists_of_round}
pub use Rattle.noc_sets.specs.Around.{Surroundings}
pub use Rattle.noc_sets.specs.Column.{AreWords, Column, IsColumn, IsTidy, RouterMarks, ShowsChannels, ShowsHolder, ShowsInput, ShowsMarks, ShowsOutput, ShowsPhase, ShowsSending, is_draining, sends_by}
pub use Rattle.noc_sets.specs.Counts.{ByVerdict, ShowsCounts, lane_verdicts, nine_counts, ten_counts}
pub use Rattle.noc_sets.specs.Cycle.{HasDecided, Links, Router, Still, Turn}
pub use Rattle.noc_sets.specs.Ended.{AreConsecutive, ShowsEnded, holds_tail}
pub use Rattle.noc_sets.specs.Grants.{Allocation, asked_of, phase_granted, with_grant}
pub use Rattle.noc_sets.specs.Injected.{HasInjected, injected_to, injection_from, injection_in}
pub use Rattle.noc_sets.specs.Layout.{IsLayoutOf, Layout}
pub use Rattle.noc_sets.specs.Moves.{AreTails, HasSwitched, chosen_by, single_in}
pub use Rattle.noc_sets.specs.Opening.{AreSides}
pub use Rattle.noc_sets.specs.Passes.{AreOwners, Effects, lane_begins, lane_heads, lane_injected, lane_no_credit, lane_no_flit, lane_no_idle_channel, lane_raised, lane_ready, settled_lane}
pub use Rattle.noc_sets.specs.Planes.{AreAll, plane_number, wrong_from}
pub use Rattle.noc_sets.specs.Sets.{least, less, lowest}
pub use Rattle.noc_sets.specs.Source.{ShowsNext, ShowsQueue, ShowsSource, Source, Start, begun_source, due_of}
pub use Rattle.noc_sets.specs.Taken.{HasSize, HasTaken, credit_from, flit_from, flit_on_vc, with_one}
pub use Rattle.noc_sets.specs.Turns.{ArePast, ArePicked, ShowsPointer}
pub use Rattle.noc_sets.specs.Unions.{some_below, union_from}
pub use Rattle.noc_sets.proofs.MemberLemmas.{and_fits, below_fits, least_is, less_fits, less_members, lowest_members, or-zero, or_fits, power-members}
pub use Rattle.noc_sets.proofs.SettleLemmas.{AreEffects, verdict_of_bits}
pub use Rattle.noc_sets.proofs.StandLemmas.{AreFilled, standing, verdicts}
pub use Rattle.noc_sets.proofs.SwitchLemmas.{AreMoved}
pub use Rattle.noc_sets.proofs.UnionLemmas.{union-members}
pub use Rattle.noc_sets.proofs.WinnerLemmas.{ShowsPorts}
pub use Rattle.noc_theory.specs.Good.{IsGoodSetup, IsValid}
pub use Rattle.noc_theory.specs.Halves.{IsSilent}
pub use Rattle.noc_theory.specs.Lockstep.{beat_by, beats_at, counts_before, findings_before, has_come, has_event_at, seen_flits, seen_holder, seen_input, seen_phase_with, seen_sender, site_at}
unfoldable pub use Rattle.noc_theory.specs.Lockstep.{beats_in, view_at, view_in}
pub use Rattle.noc_theory.specs.Network.{In, Located, On, Out, Place, Setup, State, after_injection, arrival_in, arriving, buffer_of, frozen_at, has_channel, is_in, is_on, is_past, leaving, next_channel, owner_of, packet_at, place_of_flit, size, tail_place}
unfoldable pub use Rattle.noc_theory.specs.Network.{after_verdicts, frozen_state, network_cycle, opening_state, state_at}
pub use Rattle.noc_theory.specs.Progress.{head_place}
pub use Rattle.noc_theory.specs.Seen.{IsSeen}
pub use Rattle.noc_theory.specs.declared.limits.TheConstants.{CYCLE_LIMIT}
pub use Rattle.noc_theory.proofs.join.OpeningViewLemmas.{opens}
pub use Rattle.noc_theory.proofs.join.OrderedLemmas.{IsGood}
pub use Rattle.noc_theory.proofs.join.OrderedStateLemmas.{ordered-frozen, ordered-mid, ordered-state}
pub use Rattle.noc_theory.proofs.join.PhaseLemmas.{mid}
pub use Rattle.noc_theory.proofs.join.ViewLemmas.{view_at-seen}
pub use Rattle.noc_theory.proofs.worms.BufferLemmas.{same_channel-refl}
pub use Rattle.noc_theory.proofs.worms.BuiltLemmas.{well-formed}
pub use Rattle.noc_theory.proofs.worms.GrantLemmas.{Has-below}
pub use Rattle.noc_theory.proofs.worms.MemberLemmas.{Has-filter, find-has}
pub use Rattle.noc_theory.proofs.worms.OwnedLemmas.{owner-has, owner-is}
pub use Rattle.noc_theory.proofs.worms.StateWordLemmas.{IsEject, IsPlaced, goal, last_of}
pub use Rattle.noc_theory.proofs.worms.WormRecordLemmas.{valid-last}
pub use Rattle.noc_theory_bits.specs.Network.{ShowsNetwork, ShowsRouter, Words, all_starts, numbers_in, permitted}
pub use Rattle.noc_theory_bits.specs.Owners.{ShowsHolders, frozen_of, holder_at}
pub use Rattle.noc_theory_bits.specs.Sends.{beat_of}
pub use Rattle.noc_theory_bits.specs.Wires.{ShowsBeat, ShowsLeaving, ShowsWires}
