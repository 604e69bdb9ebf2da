-- The verdicts take effect: a view that showed the frozen state shows the state after the verdicts.
use Rattle.std.proofs.Common.{◌≡◌, ℕ, ◌<◌, false, cond, [], map, length, get_or, Some, refl, ap, sym, ◌∙◌, subst, arith}
use Rattle.std.specs.Prelude.{◌||◌, if◌then◌else◌}
use Rattle.noc_view.specs.View.{buffer_after, input_after, has_event, beat_out}
use Rattle.noc_theory.proofs.Common.{list_any, below, tabulate, map_indexed, nodes, local_port, neighbour, IsLinkBack, link_back, get_or-map_indexed, length-map_indexed, get_or-tabulate, idle_input, ejection_output, Round, is_event, arbiters_after, Site, View, Decisions, decisions_of, view_after_commit, output_after, decided_verdict, counts_after, idle_beat, starts_at, ends_at, beat_by, Setup, State, size, round_at, out_cycle, tail_place, after_verdicts, IsSeen}
use Rattle.noc_theory.proofs.verdicts.CommitEndLemmas.{arrival-noted}
use Rattle.noc_theory.proofs.verdicts.CommitGrantLemmas.{output-commit}
use Rattle.noc_theory.proofs.verdicts.CommitInputLemmas.{buffer-commit, input-commit}
use Rattle.noc_theory.proofs.verdicts.CommitRestLemmas.{waits-same, sending-after, arbiters-after, event-is, counts-are}
use Rattle.noc_theory.proofs.verdicts.MoverLemmas.{same_round}
use Rattle.noc_theory.proofs.join.OrderedLemmas.{IsGood, IsOrderedFrozen}
use Rattle.noc_theory.proofs.join.PhaseLemmas.{IsCommitted, verdict_by}
use Rattle.noc_theory.proofs.verdicts.PortLemmas.{beat-is}
use Rattle.noc_theory.proofs.injection.SourceStateLemmas.{queue-same}
use Rattle.noc_theory.proofs.verdicts.StandLemmas.{findings-are}

module _ (net : Setup) (good : IsGood net) (F : State) (x : IsOrderedFrozen net F) (n r : ℕ) (l : r < nodes net.relation.grid) (v : View) (seen : IsSeen net F r v) (given : v.given ≡ n) (counts : length v.counts ≡ size net) where
  abbrev T : State
  T = after_verdicts net n F

  abbrev D : Decisions
  D = decisions_of net.relation v

  -- the view but for the arrival of a tail
  abbrev w : View
  w = record v {
    buffers = map_indexed (λ i flits. buffer_after flits (decided_verdict D i)) v.buffers;
    inputs = map_indexed (λ i input. input_after D v i input (decided_verdict D i)) v.inputs;
    outputs = map_indexed (output_after v D.round) v.outputs;
    arbiters = arbiters_after D.round v.arbiters;
    last_event = if has_event D v then Some v.given else v.last_event;
    counts = map_indexed (λ i counts. counts_after (decided_verdict D i) counts) v.counts;
    findings = D.findings;
    had_event = false;
    to_put = tabulate (local_port v.site.grid) (beat_out D v);
  }

  abbrev done : View
  done = record w { ends = map (λ q. (q, out_cycle (tail_place net T q))) (ends_at net r) }

  is_done : view_after_commit D v ≡ done
  unfolding view_after_commit
  is_done = arrival-noted net good F x n r l v seen w given seen.ends

  shows : IsSeen net T r done
  shows = record {
    site = seen.site;
    n_buffers = length-map_indexed _ v.buffers ∙ seen.n_buffers;
    n_inputs = length-map_indexed _ v.inputs ∙ seen.n_inputs;
    n_outputs = length-map_indexed _ v.outputs ∙ seen.n_outputs;
    buffer = λ i u. get_or-map_indexed (λ i flits. buffer_after flits (decided_verdict D i)) v.buffers i [] [] (let e = seen.n_buffers in omega (arith, e)) ∙ buffer-commit net good F x n r l v seen i u;
    input = λ i u. get_or-map_indexed (λ i input. input_after D v i input (decided_verdict D i)) v.inputs i idle_input idle_input (let e = seen.n_inputs in omega (arith, e)) ∙ input-commit net good F x n r l v seen i u;
    output = λ o u. get_or-map_indexed (output_after v D.round) v.outputs o ejection_output ejection_output (let e = seen.n_outputs in omega (arith, e)) ∙ output-commit net good F x n r l v seen o u;
    arbiters =
        ap (λ (round : Round). arbiters_after round v.arbiters) (same_round net good F x n r l v seen) ∙ ap (arbiters_after (round_at net F r)) seen.arbiters ∙ arbiters-after net good F x n r l;
    queue = seen.queue ∙ sym (queue-same net F T (waits-same net good F x n) (starts_at net r));
    sending = seen.sending ∙ sym (sending-after net good F x n r);
    ends = refl;
    misfits = seen.misfits;
  }

  put-beats : (port s q : ℕ) → neighbour net.relation.grid s q ≡ Some (r, port) → s < nodes net.relation.grid → get_or (tabulate (local_port v.site.grid) (beat_out D v)) port idle_beat ≡ beat_by net T s q (Some (r, port))
  put-beats port s q e m =
      let back : IsLinkBack net.relation.grid s q r port = link_back net.relation.grid s q r port good.relation.table.grid m e in
      let low : port < local_port v.site.grid = subst (λ (site : Site). port < local_port site.grid) (sym seen.site) back.port in
      get_or-tabulate (local_port v.site.grid) port (beat_out D v) idle_beat low ∙ beat-is net good F x n r l v seen port s q e m

  pub commits : IsCommitted net F n r v (view_after_commit D v)
  commits = subst (λ (y : View). IsCommitted net F n r v y) (sym is_done)
      (record {
        seen = shows;
        findings = findings-are net good F x r l v seen;
        given = given;
        event = refl;
        last_event =
            ap (λ b. cond b (Some v.given) v.last_event) (event-is net good F x n r l v seen)
            ∙ ap (λ k. cond (v.had_event || list_any (λ i. is_event (verdict_by net F r i)) (below (size net))) (Some k) v.last_event) given;
        counts = counts-are net good F x n r l v seen counts;
        beats = put-beats;
      })
