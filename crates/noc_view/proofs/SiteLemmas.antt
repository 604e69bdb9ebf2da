-- Which parts of a view a phase of its cycle leaves alone.
use Rattle.std.proofs.Common.{◌≡◌, ℕ, ◌+◌, ◌*◌, Bool, true, false, List, [], ◌∷◌, length, set, Option, Some, None, refl, ap, ◌∙◌}
use Rattle.std.specs.Prelude.{◌&&◌, find, nat_lt, nat_le, if◌then◌else◌}
use Rattle.noc_topo.specs.Lists.{below, tabulate, map_indexed}
use Rattle.noc_topo.specs.Shape.{local_port}
use Rattle.noc_packet.specs.declared.packet.Packet.{Packet}
use Rattle.noc_packet.specs.declared.packet.Flit.{Flit}
use Rattle.noc_packet.specs.declared.packet.Beat.{Beat}
use Rattle.noc_route.specs.Routes.{Routes}
use Rattle.noc_vc.specs.Input.{fits}
use Rattle.noc_vc.specs.Output.{credit_fits, output_after_credit}
use Rattle.noc_view.specs.Verdict.{arbiters_after}
use Rattle.noc_view.specs.View.{View, Site, Decisions, with_landed, with_misfit, with_flit, with_credit, view_after_take, view_after_takes_from, view_after_takes, view_after_inject, view_after_inject_from, begun_on, with_injected, is_vacant, view_after_commit, tail_packet, flit_out, has_link, view_buffer, view_input, view_output, decided_verdict, buffer_after, input_after, output_after, has_event, beat_out, counts_after, local_channel}
use Rattle.noc_view.proofs.SinkLemmas.{arrival-is, sink_ends, sink_misfits}

either_site : (b : Bool) (x y : View) (s : Site) → x.site ≡ s → y.site ≡ s → (if b then x else y).site ≡ s
either_site true x y s e f = e
either_site false x y s e f = f

flit-site : (relation : Routes) (port : ℕ) (flit : Option (ℕ × Flit)) (v : View) → (with_flit relation port flit v).site ≡ v.site
flit-site relation port None v = refl
flit-site relation port (Some (vc, f)) v =
    either_site (has_link v.site port && nat_lt vc v.site.vcs && fits relation v.site.node port vc v.site.depth (view_buffer v (port * v.site.vcs + vc)) (view_input v (port * v.site.vcs + vc)) f)
    (with_landed (port * v.site.vcs + vc) f v) (with_misfit v) v.site refl refl

credit-site : (port : ℕ) (credit : Option ℕ) (v : View) → (with_credit port credit v).site ≡ v.site
credit-site port None v = refl
credit-site port (Some vc) v =
    either_site (has_link v.site port && nat_lt vc v.site.vcs && credit_fits (view_output v (port * v.site.vcs + vc)))
    (record v { outputs = set v.outputs (port * v.site.vcs + vc) (output_after_credit (view_output v (port * v.site.vcs + vc))); had_event = true }) (with_misfit v) v.site refl refl

pub taken-site : (relation : Routes) (port : ℕ) (beat : Beat) (v : View) → (view_after_take relation port beat v).site ≡ v.site
unfolding view_after_take
taken-site relation port beat v = credit-site port beat.credit (with_flit relation port beat.flit v) ∙ flit-site relation port beat.flit v

pub taken_from-site : (relation : Routes) (port : ℕ) (beats : List Beat) (v : View) → (view_after_takes_from relation port beats v).site ≡ v.site
taken_from-site relation port [] v = refl
taken_from-site relation port (beat ∷ beats) v = taken_from-site relation (port + 1) beats (view_after_take relation port beat v) ∙ taken-site relation port beat v

pub all_taken-site : (relation : Routes) (beats : List Beat) (v : View) → (view_after_takes relation beats v).site ≡ v.site
unfolding view_after_takes
all_taken-site relation beats v = taken_from-site relation 0 beats v

begun-site : (vc : Option ℕ) (packet : ℕ) (p : Packet) (rest : List (ℕ × Packet)) (v : View) → (begun_on vc packet p rest v).site ≡ v.site
begun-site None packet p rest v = refl
begun-site (Some vc) packet p rest v = refl

injected_from-site : (n : ℕ) (queue : List (ℕ × Packet)) (sending : Option (ℕ × ℕ)) (v : View) → (view_after_inject_from n queue sending v).site ≡ v.site
injected_from-site n [] sending v = refl
injected_from-site n ((packet, p) ∷ rest) (Some (vc, index)) v =
    either_site (nat_lt (length (view_buffer v (local_channel v.site vc))) v.site.depth) (with_injected vc index packet p rest v) v v.site refl refl
injected_from-site n ((packet, p) ∷ rest) None v =
    either_site (nat_le p.due n) (begun_on (find (is_vacant v) (below v.site.vcs)) packet p rest v) v v.site (begun-site (find (is_vacant v) (below v.site.vcs)) packet p rest v) refl

pub injected-site : (n : ℕ) (v : View) → (view_after_inject n v).site ≡ v.site
unfolding view_after_inject
injected-site n v = injected_from-site n v.queue v.sending (record v { given = n })

-- ---- the parts of a commit
-- what takes effect of all verdicts, but for what the sink does with the tail that leaves
abbrev pub unsunk : Decisions → View → View
unsunk d v = record v {
  buffers = map_indexed (λ i flits. buffer_after flits (decided_verdict d i)) v.buffers;
  inputs = map_indexed (λ i input. input_after d v i input (decided_verdict d i)) v.inputs;
  outputs = map_indexed (output_after v d.round) v.outputs;
  had_event = has_event d v;
  to_put = tabulate (local_port v.site.grid) (beat_out d v);
}

-- the pointers go on, and the cycle ends
abbrev turned_and_closed : Decisions → View → View
turned_and_closed d v = record v {
  arbiters = arbiters_after d.round v.arbiters;
  last_event = if v.had_event then Some v.given else v.last_event;
  had_event = false;
}

-- the verdicts are counted and shown
abbrev counted_and_shown : Decisions → View → View
counted_and_shown d v = record v {
  counts = map_indexed (λ i counts. counts_after (decided_verdict d i) counts) v.counts;
  findings = d.findings;
}

-- the arrival and the misfit of the tail that leaves
abbrev pub sunk : Decisions → View → View → View
sunk d v w =
    let a = tail_packet (flit_out v d.round (local_port v.site.grid)) in
    record w { ends = sink_ends a v.given v.ends; misfits = sink_misfits a v.ends v.misfits }

pub committed-parts : (d : Decisions) (v : View) → view_after_commit d v ≡ sunk d v (turned_and_closed d (counted_and_shown d (unsunk d v)))
unfolding view_after_commit
committed-parts d v = arrival-is (tail_packet (flit_out v d.round (local_port v.site.grid))) (turned_and_closed d (counted_and_shown d (unsunk d v)))

pub committed-site : (d : Decisions) (v : View) → (view_after_commit d v).site ≡ v.site
committed-site d v = ap (λ (x : View). x.site) (committed-parts d v)
