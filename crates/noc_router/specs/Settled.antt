-- How the verdict of one input channel takes effect, and all of them.
use Rattle.std.specs.Prelude.{◌≡◌, ℕ, ◌/◌, ◌%◌, ◌<◌, true, List, drop, Option, Some, None, IfSome, option_map, length, nat_lt, unwrap_or, slice_index, slice_index_or, slice_set, if◌then◌else◌}
use Rattle.noc_topo.specs.Lists.{tabulate, map_indexed}
use Rattle.noc_topo.specs.Shape.{local_port}
use Rattle.noc_packet.specs.declared.packet.Flit.{Flit}
use Rattle.noc_packet.specs.declared.packet.Beat.{Beat}
use Rattle.noc_route.specs.Routes.{Routes}
use Rattle.noc_vc.specs.Input.{Input, is_waiting, input_after_route, input_after_grant, input_after_send}
use Rattle.noc_vc.specs.Output.{is_free, has_credit, output_after_hold, output_after_spend}
use Rattle.noc_vc.specs.declared.input.InputState.{InputState}
use Rattle.noc_vc.specs.declared.input.InputState.TheVariants.{Idle, Waiting, Active}
use Rattle.noc_router.specs.Sound.{nth_input, finding_with}
use Rattle.noc_view.specs.declared.verdict.Verdict.{Verdict}
use Rattle.noc_view.specs.declared.verdict.Verdict.TheVariants.{Empty, Routed, Granted, Moved}
use Rattle.noc_view.specs.declared.finding.Finding.{Finding}
use Rattle.noc_view.specs.Verdict.{out_of}
use Rattle.noc_view.specs.View.{View, Decisions, PlanContents, IsRelationOf, plan_contents, port_and_vc, view_claim, idle_beat, idle_beats, counts_after, size_of, view_buffer, view_input, view_output, first_flit, flit_out, tail_packet, with_arrival, decided_verdict, buffer_after, input_after, output_after, has_event, beat_out}

-- the outcome of this very view
pub record AreContentsFor (p : PlanContents) (v : View) : Type 0 where
  pub relation : Routes
  pub fits : IsRelationOf relation v
  pub is : p ≡ plan_contents relation v

-- the verdict of input channel i
abbrev pub planned_verdict : PlanContents → ℕ → Verdict
planned_verdict p i = slice_index_or p.verdicts i Empty

-- what is found of input channel i with this verdict
abbrev pub found_with : View → Verdict → ℕ → Finding
found_with v verdict i = record {
  verdict = verdict;
  packet = (view_input v i).packet;
  out = option_map (port_and_vc v.site) (out_of (view_claim v i));
}

-- the decisions of a view with this outcome
abbrev pub decisions_by : PlanContents → View → Decisions
decisions_by p v = record {
  round = p.round;
  findings = tabulate (size_of v.site) (λ i. found_with v (planned_verdict p i) i);
  routes = p.routes;
}

-- the same, by the outcome and the state of the input channels
abbrev pub finding_by : PlanContents → ℕ → List Input → ℕ → Finding
finding_by p vcs inputs i =
    finding_with vcs (nth_input inputs i) (planned_verdict p i) (slice_index_or p.asks i None)

-- the verdicts are counted, the findings kept, and every beat is idle again
abbrev pub view_after_tally : Decisions → View → View
view_after_tally d v = record v {
  counts = map_indexed (λ i counts. counts_after (decided_verdict d i) counts) v.counts;
  findings = d.findings;
  to_put = idle_beats v.site;
}

-- ---- one verdict
-- the beats with this flit on this channel of a link port; a flit to the local port is on none
abbrev pub with_flit_at : ℕ → ℕ → Flit → List Beat → List Beat
with_flit_at port vc f beats =
    slice_set beats port (record (slice_index_or beats port idle_beat) { flit = Some (vc, f) })

-- the beats with this credit at a link port; a credit to the local port is on none
abbrev pub with_credit_at : ℕ → ℕ → List Beat → List Beat
with_credit_at port vc beats =
    slice_set beats port (record (slice_index_or beats port idle_beat) { credit = Some vc })

-- the packet whose tail leaves by this port, if it is the local one
abbrev pub ejected_packet : View → ℕ → Flit → Option ℕ
ejected_packet v port f =
    if nat_lt port (local_port v.site.grid) then None else (if f.last then Some f.packet else None)

-- an input channel was routed
abbrev pub view_after_route : ℕ → ℕ → View → View
view_after_route i set v = record v {
  inputs = slice_set v.inputs i (input_after_route (view_input v i) set);
  had_event = true;
}

-- an input channel was granted output channel o
abbrev pub view_after_grant : ℕ → ℕ → View → View
view_after_grant i o v = record v {
  inputs = slice_set v.inputs i (input_after_grant (view_input v i) o);
  outputs = slice_set v.outputs o
      (output_after_hold (view_output v o) i (unwrap_or (view_input v i).packet 0));
  had_event = true;
}

-- an input channel has sent its first flit to output channel o
abbrev pub view_after_send : ℕ → ℕ → Flit → View → View
view_after_send i o f v = record v {
  buffers = slice_set v.buffers i (drop 1 (view_buffer v i));
  inputs = slice_set v.inputs i (input_after_send (view_input v i) f);
  outputs = slice_set v.outputs o (output_after_spend f.last (view_output v o));
  had_event = true;
}

-- a credit leaves by a port
abbrev pub credit_put : ℕ → ℕ → View → View
credit_put port vc v = record v { to_put = with_credit_at port vc v.to_put }

-- a flit leaves by a port, or has arrived
abbrev pub flit_put : ℕ → ℕ → Flit → View → View
flit_put port vc f v =
    with_arrival (ejected_packet v port f) (record v { to_put = with_flit_at port vc f v.to_put })

-- the first flit of an input channel, if there is one, leaves by output channel o
abbrev pub moved_by : ℕ → ℕ → Option Flit → View → View
moved_by i o None v = v
moved_by i o (Some f) v =
    flit_put (o / v.site.vcs) (o % v.site.vcs) f
    (credit_put (i / v.site.vcs) (i % v.site.vcs) (view_after_send i o f v))

abbrev pub granted_by : ℕ → Option ℕ → View → View
granted_by i None v = v
granted_by i (Some o) v = view_after_grant i o v

abbrev pub moved_in_phase : ℕ → InputState → View → View
moved_in_phase i Idle v = v
moved_in_phase i (Waiting set) v = v
moved_in_phase i (Active o) v = moved_by i o (first_flit v i) v

-- the verdict of channel i takes effect
abbrev pub effect_of : PlanContents → ℕ → View → Verdict → View
effect_of p i v Routed = view_after_route i (slice_index p.routes i) v
effect_of p i v Granted = granted_by i (slice_index_or p.asks i None) v
effect_of p i v Moved = moved_in_phase i (view_input v i).phase v
effect_of p i v _ = v

-- what holds where input channel i is granted output channel o
pub record CanGrant (v : View) (i o : ℕ) : Type 0 where
  pub within : o < size_of v.site
  pub waits : is_waiting (view_input v i).phase ≡ true
  pub free : is_free (view_output v o).holder ≡ true

-- what holds where input channel i moves a flit to the output channel that it owns
abbrev pub CanMove : View → ℕ → InputState → Type 0
CanMove v i Idle = Unit {0}
CanMove v i (Waiting set) = Unit {0}
CanMove v i (Active o) = (has_credit (view_output v o) ≡ true) × (0 < length (view_buffer v i))

-- what a verdict says of the view
abbrev pub CanTakeEffect : PlanContents → View → ℕ → Verdict → Type 0
CanTakeEffect p v i Routed = ((view_input v i).phase ≡ Idle) × (0 < length (view_buffer v i))
CanTakeEffect p v i Granted = IfSome (slice_index_or p.asks i None) (CanGrant v i)
CanTakeEffect p v i Moved = CanMove v i (view_input v i).phase
CanTakeEffect p v i _ = Unit {0}

-- ---- all verdicts
unfoldable pub view_after_verdicts : Decisions → View → View
view_after_verdicts d v =
    with_arrival (tail_packet (flit_out v d.round (local_port v.site.grid))) (record v {
      buffers = map_indexed (λ i flits. buffer_after flits (decided_verdict d i)) v.buffers;
      inputs = map_indexed (λ i input. input_after d v i input (decided_verdict d i)) v.inputs;
      outputs = map_indexed (output_after v d.round) v.outputs;
      had_event = has_event d v;
      to_put = tabulate (local_port v.site.grid) (beat_out d v);
    })
