-- What a router of the lockstep run sees and sends in one cycle.
use Rattle.std.proofs.Common.{◌≡◌, ℕ, zero, suc, ◌+◌, ◌<◌, ◌≤◌, List, [], length, map, get_or, slice_get, Some, None, ap, sym, ◌∙◌, ⊎_elim, arith, add-one, replicate}
use Rattle.std.proofs.lemmas.Option.{slice_get-get_or}
use Rattle.noc_theory.proofs.Common.{get_or-map, length-map, get_or-replicate, slice_get_within, get_or_from_slice_get, cases_lt, map_indexed, tabulate, nodes, local_port, neighbour, get_or-tabulate, length-map_indexed, get_or-map_indexed, Beat, Site, View, local_step, idle_beat, beat_at, beat_from, beats_at, wires_after_puts, lockstep_at, lockstep_cycle, opening_lockstep, site_at, Setup}
use Rattle.noc_theory.proofs.runs.RunLemmas.{count_views, linked_wires, past_wires, site_views}
use Rattle.noc_theory.proofs.runs.StepLemmas.{count-decided, local_step-beats}

module _ (net : Setup) where
  -- cycle n of router r, which has this view
  abbrev pub step_of : ℕ → ℕ → View → View × List Beat
  step_of n r view = local_step net.relation view (beats_at (lockstep_at net n).wires r) n

  pub view_within : (n r : ℕ) (view : View) → slice_get (lockstep_at net n).views r ≡ Some view → r < nodes net.relation.grid
  view_within n r view e = let l = slice_get_within (lockstep_at net n).views r view e in omega (arith, count_views net n)

  pub view_site : (n r : ℕ) (view : View) → slice_get (lockstep_at net n).views r ≡ Some view → view.site ≡ site_at net r
  view_site n r view e =
      ap (λ (v : View). v.site) (sym (get_or_from_slice_get (lockstep_at net n).views r view view e)) ∙ site_views net n r view (view_within n r view e)

  pub count_sent : (n r : ℕ) (view : View) (beats : List Beat) → slice_get (lockstep_at net n).views r ≡ Some view
      → length (local_step net.relation view beats n).1 ≡ local_port net.relation.grid
  count_sent n r view beats e =
      ap length (local_step-beats net.relation view beats n) ∙ count-decided net.relation n beats view ∙ ap (λ (s : Site). local_port s.grid) (view_site n r view e)

  -- the view after the cycle
  pub next_view : (n r : ℕ) (view : View) → slice_get (lockstep_at net n).views r ≡ Some view → slice_get (lockstep_at net (n + 1)).views r ≡ Some (step_of n r view).0
  unfolding lockstep_at lockstep_cycle
  next_view n r view e =
      let views = (lockstep_at net n).views in
      let steps = map_indexed (step_of n) views in
      let within : r < length (lockstep_at net n).views = slice_get_within views r view e in
      let count : length (map_indexed (step_of n) (lockstep_at net n).views) ≡ length (lockstep_at net n).views = length-map_indexed (step_of n) views in
      let here : get_or (map (λ (s : View × List Beat). s.0) (map_indexed (step_of n) (lockstep_at net n).views)) r view ≡ (step_of n r view).0 =
      get_or-map (λ (s : View × List Beat). s.0) steps r (view, []) view (omega arith)
      ∙ ap (λ (s : View × List Beat). s.0) (get_or-map_indexed (step_of n) views r view (view, []) within)
      ∙ ap (λ v. (step_of n r v).0) (get_or_from_slice_get views r view view e) in
      rw (add-one n)
      (slice_get-get_or (map (λ (s : View × List Beat). s.0) (map_indexed (step_of n) (lockstep_at net n).views)) r view
      (let c = length-map (map_indexed (step_of n) (lockstep_at net n).views) (λ (s : View × List Beat). s.0) in omega arith)
      ∙ ap Some here)

  -- the beat that it sends to the neighbour that has it at this port
  pub sent_beat : (n r port s q : ℕ) (view : View) → slice_get (lockstep_at net n).views r ≡ Some view
      → s < nodes net.relation.grid → q < local_port net.relation.grid → neighbour net.relation.grid s q ≡ Some (r, port)
      → beat_at (lockstep_at net (n + 1)).wires s q ≡ get_or (step_of n r view).1 port idle_beat
  unfolding lockstep_at lockstep_cycle wires_after_puts
  sent_beat n r port s q view e in_net in_links from =
      let views = (lockstep_at net n).views in
      let steps = map_indexed (step_of n) views in
      let sent = map (λ (s : View × List Beat). s.1) steps in
      let within : r < length (lockstep_at net n).views = slice_get_within views r view e in
      let count : length (map_indexed (step_of n) (lockstep_at net n).views) ≡ length (lockstep_at net n).views = length-map_indexed (step_of n) views in
      rw (add-one n)
      (ap (λ row. get_or row q idle_beat) (get_or-tabulate (nodes net.relation.grid) s (λ k. tabulate (local_port net.relation.grid) (λ p. beat_from sent (neighbour net.relation.grid k p))) [] in_net)
      ∙ get_or-tabulate (local_port net.relation.grid) q (λ p. beat_from sent (neighbour net.relation.grid s p)) idle_beat in_links
      ∙ ap (beat_from sent) from
      ∙ ap (λ row. get_or row port idle_beat)
      (get_or-map (λ (s : View × List Beat). s.1) steps r (view, []) [] (omega arith)
      ∙ ap (λ (s : View × List Beat). s.1) (get_or-map_indexed (step_of n) views r view (view, []) within)
      ∙ ap (λ v. (step_of n r v).1) (get_or_from_slice_get views r view view e)))

  -- no beat comes where there is no link
  pub unlinked_beat : (n r port : ℕ) → neighbour net.relation.grid r port ≡ None → beat_at (lockstep_at net n).wires r port ≡ idle_beat
  unfolding lockstep_at opening_lockstep lockstep_cycle wires_after_puts
  unlinked_beat n r port none =
      ⊎_elim (λ (in_net : r < nodes net.relation.grid).
      ⊎_elim (λ (link : port < local_port net.relation.grid). by n in_net link)
      (λ (past : local_port net.relation.grid ≤ port). linked_wires net n r port past)
      (cases_lt port (local_port net.relation.grid)))
      (λ (past : nodes net.relation.grid ≤ r). past_wires net n r port past)
      (cases_lt r (nodes net.relation.grid))
    where
      by : (m : ℕ) → r < nodes net.relation.grid → port < local_port net.relation.grid → beat_at (lockstep_at net m).wires r port ≡ idle_beat
      by zero in_net link =
          ap (λ row. get_or row port idle_beat) (get_or-replicate (nodes net.relation.grid) r (replicate (local_port net.relation.grid) idle_beat) [] in_net)
          ∙ get_or-replicate (local_port net.relation.grid) port idle_beat idle_beat link
      by (suc m) in_net link =
          let sent = map (λ (s : View × List Beat). s.1) (map_indexed (step_of m) (lockstep_at net m).views) in
          ap (λ row. get_or row port idle_beat) (get_or-tabulate (nodes net.relation.grid) r (λ k. tabulate (local_port net.relation.grid) (λ p. beat_from sent (neighbour net.relation.grid k p))) [] in_net)
          ∙ get_or-tabulate (local_port net.relation.grid) port (λ p. beat_from sent (neighbour net.relation.grid r p)) idle_beat link
          ∙ ap (beat_from sent) none
