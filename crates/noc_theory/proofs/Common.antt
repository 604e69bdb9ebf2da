-- The names that proofs of this crate cite most, passed on from one place. Declares nothing.
pub use Rattle.std.specs.List.{All, AllByRecursion, cons_option, enumerate_from, filter_map, flat_map, list_all, list_any, range_with_len}
pub use Rattle.std.proofs.lemmas.Bool.{and_from, and_left, and_parts, and_right, cases_eq, cases_lt, cases_order, eq-eqb, eqb-true, false_from_ne_true, false≢true, le-leb, le-ltb, leb-false, leb-true, lt-ltb, ltb-false, ltb-true, ne_eqb, not-true, or_cases, or_left, or_right, true_from_ne_false, true≢false}
pub use Rattle.std.proofs.lemmas.List.{ext_get_or, get_or-map, get_or-replicate, get_or-set_other, get_or-set_same, get_or_past, length-map, length-replicate, length-set, map-append, same_lists}
pub use Rattle.std.proofs.lemmas.List.Folds.{list_all_at}
pub use Rattle.std.proofs.lemmas.List.Sums.{sum_by-cons}
pub use Rattle.std.proofs.lemmas.Nat.{div-add-mod', div-mul-add, mod-mul-add}
pub use Rattle.std.proofs.lemmas.Option.{get_or_from_slice_get, none-some, same_Some, slice_get_within}
pub use Rattle.noc_topo.specs.Lists.{Each, Has, Pairs, is_some_of, lesser_by, one_if}
unfoldable pub use Rattle.noc_topo.specs.Lists.{below, least_by, map_indexed, tabulate}
pub use Rattle.noc_topo.specs.Shape.{Grid, IsGrid, IsLinkBack, distance, local_port, neighbour, nodes, ports}
pub use Rattle.noc_topo.proofs.LinkLemmas.{link_back}
pub use Rattle.noc_topo.proofs.ListLemmas.{below-next, get_or-map_indexed, get_or-tabulate, length-map_indexed, length-tabulate, map_indexed-from_each, tabulate-from_each}
pub use Rattle.noc_packet.specs.Packet.{flit_at}
pub use Rattle.noc_packet.specs.Set.{has_bit}
pub use Rattle.noc_packet.specs.declared.packet.Beat.{Beat}
pub use Rattle.noc_packet.specs.declared.packet.Flit.{Flit}
pub use Rattle.noc_packet.specs.declared.packet.Packet.{Packet}
pub use Rattle.noc_route.specs.Channel.{Channel, Eject, Inject, Link, arrival_of, channel_vc, input_at, is_link, output_at, output_index, same_channel, sending_router}
unfoldable pub use Rattle.noc_route.specs.Channel.{inputs}
pub use Rattle.noc_route.specs.Routes.{IsRelation, Routes, permits, set_at}
pub use Rattle.noc_route.proofs.BuiltLemmas.{linked-port}
pub use Rattle.noc_route.proofs.OptionLemmas.{is_none-none, no-value, some-value}
pub use Rattle.noc_route.proofs.PermitsLemmas.{PermitsEject-from_test, PermitsLink-from_test}
pub use Rattle.noc_alloc.proofs.WordLemmas.{is_some_of-some, is_some_of-true}
pub use Rattle.noc_vc.specs.Input.{Input, fits, idle_input, input_after_land, is_empty, next_of}
pub use Rattle.noc_vc.specs.Output.{Output, credit_fits, ejection_output, output_after_credit}
pub use Rattle.noc_vc.specs.declared.input.InputState.{InputState}
pub use Rattle.noc_vc.specs.declared.input.InputState.TheVariants.{Idle, Waiting}
pub use Rattle.noc_vc.specs.declared.output.OutputState.TheVariants.{Draining, Owned}
pub use Rattle.noc_view.specs.Verdict.{ArbiterStates, Claim, Holds, Round, Unrouted, Waits, arbiters_after, ask_of, is_event, is_granted, is_moved, is_routed, out_of, ready_port, verdict_of}
pub use Rattle.noc_view.specs.View.{Decisions, Site, View, begun_on, counts_after, decided_verdict, first_flit, flit_out, has_link, idle_beat, idle_beats, is_vacant, local_channel, mover, mover_to, opening_view, output_after, size_of, tail_packet, view_after_inject_from, view_after_takes_from, view_buffer, view_claim, view_input, view_output, with_arrival, with_credit, with_flit, with_injected, with_landed, with_misfit}
unfoldable pub use Rattle.noc_view.specs.View.{decisions_of, local_step, view_after_commit, view_after_inject, view_after_take, view_after_takes, view_round}
pub use Rattle.noc_view.specs.declared.finding.Finding.{Finding}
pub use Rattle.noc_view.specs.declared.verdict.Verdict.{Verdict}
pub use Rattle.noc_view.specs.declared.verdict.Verdict.TheVariants.{Empty, Granted, LostChannel, LostInput, LostSwitch, Moved, NoIdleChannel, Routed}
pub use Rattle.noc_view.proofs.FindLemmas.{find-same}
pub use Rattle.noc_view.proofs.MoverLemmas.{is_moved-true}
pub use Rattle.noc_theory.specs.Core.{CoreState, Post, all_have, has_beat, holds_at, is_linked, link_ports, may_decide, none_has, post_at, resting_post, taking, wire_of}
unfoldable pub use Rattle.noc_theory.specs.Core.{happens, is_ready}
pub use Rattle.noc_theory.specs.Good.{IsGoodSetup, IsValid, IsWellFormedSetup, slots_taken}
pub use Rattle.noc_theory.specs.Halves.{IsSilent, beat_at, view_after_puts}
unfoldable pub use Rattle.noc_theory.specs.Halves.{incoming, view_after_decide}
pub use Rattle.noc_theory.specs.InStep.{IsInStep, IsPostInStep, cycle_of, cycle_put, cycle_taken, lockstep_wires}
unfoldable pub use Rattle.noc_theory.specs.InStep.{lockstep_core}
pub use Rattle.noc_theory.specs.Lockstep.{beat_by, beat_from, beats_at, come_count, counts_before, ends_at, finding_in, flies_to, flit_on, has_come, has_flit_at_source, is_present, last_come, seen_flits, seen_holder, seen_input, seen_output, seen_phase, seen_phase_with, seen_sender, seen_sending, seen_set, site_at, starts_at}
unfoldable pub use Rattle.noc_theory.specs.Lockstep.{beats_in, lockstep_at, lockstep_cycle, opening_lockstep, view_at, view_in, wires_after_puts}
pub use Rattle.noc_theory.specs.Network.{In, Injection, Located, On, Out, Place, Run, Setup, Source, State, all_inputs, arbiters_at, arrival_in, arriving, ask, beginning, buffer_of, claim_of, claim_with, count_in, count_on, credit_of, end_distance, end_of, first_at_source, first_waiting, flits_of, front_in, frozen_at, gone_to, grant_to_owner, granted_pair, has_channel, has_credit_in, injected_place, injection_at, injection_with, injections, is_at_source, is_freed, is_idle, is_in, is_injection_of, is_on, is_past, is_released, is_tail_of_packet, is_the_flit, landed_place, leads_from, leaving, moved_place, next_channel, out_cycle, owned_by, owner_of, packet_at, place_of_flit, round_at, size, stand_of, tail_leaves, tail_leaves_to, tail_place, verdict_at, verdict_in, verdict_in_cycle}
unfoldable pub use Rattle.noc_theory.specs.Network.{after_credits, after_injection, after_landing, after_verdicts, frozen_state, network_cycle, opening_state, state_at}
pub use Rattle.noc_theory.specs.Order.{is_decide, is_put, is_take}
pub use Rattle.noc_theory.specs.Progress.{allocations_left, budget, events, head_place, hops, is_flying, is_pending, is_stuck, last_event_before, remainder, weight}
pub use Rattle.noc_theory.specs.Seen.{AreSeen, IsSeen}
pub use Rattle.noc_theory.specs.Worm.{IsPath}
pub use Rattle.noc_theory.specs.declared.event.Event.{Event}
pub use Rattle.noc_theory.specs.declared.event.Event.TheVariants.{Decide, Put, Take}
pub use Rattle.noc_theory.specs.declared.limits.TheConstants.{CYCLE_LIMIT}
