-- The lockstep run shows the run of the network, by induction on its cycles.
use Rattle.std.proofs.Common.{◌≡◌, ℕ, zero, suc, ◌-◌, ◌^◌, ◌<◌, ◌≤◌, cond, List, [], length, map, get_or, Option, Some, None, refl, ap, sym, ◌∙◌, subst, replicate, arith}
use Rattle.std.specs.Prelude.{◌||◌, is_some}
use Rattle.noc_topo.proofs.LinkLemmas.{neighbour-range}
use Rattle.noc_theory.proofs.Common.{list_any, length-map, get_or-map, get_or-replicate, length-replicate, below, tabulate, map_indexed, IsGrid, nodes, neighbour, local_port, get_or-tabulate, length-tabulate, tabulate-from_each, length-map_indexed, get_or-map_indexed, Beat, is_event, Site, View, view_after_takes, view_after_inject, decisions_of, view_after_commit, counts_after, local_step, idle_beat, idle_beats, opening_view, Verdict, CYCLE_LIMIT, Setup, State, size, opening_state, state_at, frozen_at, frozen_state, after_injection, after_verdicts, network_cycle, injection_at, verdict_in_cycle, lockstep_at, lockstep_cycle, opening_lockstep, wires_after_puts, beats_at, beat_from, beat_by, beats_in, view_in, view_at, site_at, starts_at, ends_at, counts_before, AreSeen, IsSeen}
use Rattle.noc_theory.specs.Lockstep.{has_event_at}
use Rattle.noc_theory.proofs.runs.RunLemmas.{count_views}
use Rattle.noc_theory.proofs.join.OrderedLemmas.{IsGood, IsOrdered, IsOrderedFrozen}
use Rattle.noc_theory.proofs.join.PhaseLemmas.{mid, IsTaken, IsInjected, IsCommitted, ArePhases, verdict_by}
use Rattle.noc_theory.proofs.verdicts.CountLemmas.{counted-next}
use Rattle.noc_theory.proofs.join.OpeningStateLemmas.{no-beat}
use Rattle.noc_theory.proofs.join.ViewLemmas.{view_at-seen, is_view_at}

module _ (net : Setup) (phases : ArePhases net) where
  -- ---- one cycle of one router

  module _ (n r : ℕ) (l : r < nodes net.relation.grid) (few : n < 2 ^ 64 - 1) (ordered : IsOrdered net (state_at net n)) (middle : IsOrderedFrozen net (mid net (state_at net n)))
      (last : IsOrderedFrozen net (frozen_at net n)) where
    abbrev S : State
    S = state_at net n

    abbrev v : View
    v = view_at net n r

    abbrev w : View
    w = view_after_takes net.relation (beats_at (beats_in net S) r) v

    abbrev f : View
    f = view_after_inject n w

    abbrev after : View
    after = view_after_commit (decisions_of net.relation f) f

    taken : IsTaken net S r v w
    unfolding view_at view_in
    taken = phases.takes S ordered r l v (view_at-seen net n r) refl

    given : IsInjected net (mid net S) n r w f
    given = phases.injects (mid net S) middle n r l w taken.seen

    same_frozen : after_injection net n (mid net S) ≡ frozen_at net n
    unfolding frozen_state
    same_frozen = refl

    count_counts : length f.counts ≡ size net
    unfolding view_at
    count_counts = ap length (given.noted.counts ∙ taken.noted.counts) ∙ length-tabulate (size net) (counts_before net n r)

    done : IsCommitted net (frozen_at net n) n r f after
    done = phases.commits (frozen_at net n) last n r l f (subst (λ (F : State). IsSeen net F r f) same_frozen given.seen) given.given count_counts

    next_state : after_verdicts net n (frozen_at net n) ≡ state_at net (suc n)
    unfolding state_at network_cycle
    next_state = refl

    verdict_then : ℕ → ℕ → Verdict
    verdict_then i m = verdict_in_cycle net m r i

    each-count : (i : ℕ) → i < size net → counts_after (verdict_by net (frozen_at net n) r i) (counts_before net n r i) ≡ counts_before net (suc n) r i
    each-count i m = counted-next (λ k. verdict_in_cycle net k r i) n few

    counts-next : map_indexed (λ i counts. counts_after (verdict_by net (frozen_at net n) r i) counts) (tabulate (size net) (counts_before net n r)) ≡ tabulate (size net) (counts_before net (suc n) r)
    counts-next =
        let count : List ℕ → ℕ → List ℕ = λ counts i. counts_after (verdict_by net (frozen_at net n) r i) counts in
        let before : List (List ℕ) = tabulate (size net) (counts_before net n r) in
        let len : length before ≡ size net = length-tabulate (size net) (counts_before net n r) in
        tabulate-from_each (size net) (counts_before net (suc n) r) (map_indexed (λ i counts. count counts i) before) []
        (length-map_indexed (λ i counts. count counts i) before ∙ len)
        (λ i m. get_or-map_indexed (λ i counts. count counts i) before i [] [] (omega (arith, len)) ∙ ap (λ c. count c i) (get_or-tabulate (size net) i (counts_before net n r) [] m) ∙ each-count i m)

    event-next : f.had_event || list_any (λ i. is_event (verdict_by net (frozen_at net n) r i)) (below (size net)) ≡ has_event_at net n r
    event-next =
        ap (λ b. b || list_any (λ i. is_event (verdict_by net (frozen_at net n) r i)) (below (size net))) (given.event ∙ ap (λ b. b || is_some (injection_at net (mid net S) n r)) taken.event)

    pub next-view : record after { to_put = idle_beats after.site } ≡ view_at net (suc n) r
    unfolding view_at view_in
    next-view =
        let seen : IsSeen net (state_at net (suc n)) r after = subst (λ (T : State). IsSeen net T r after) next_state done.seen in
        is_view_at net (suc n) r (record after { to_put = idle_beats after.site })
        (record {
          site = seen.site;
          n_buffers = seen.n_buffers;
          n_inputs = seen.n_inputs;
          n_outputs = seen.n_outputs;
          buffer = seen.buffer;
          input = seen.input;
          output = seen.output;
          arbiters = seen.arbiters;
          queue = seen.queue;
          sending = seen.sending;
          ends = seen.ends;
          misfits = seen.misfits;
        })
        (done.last_event ∙ ap (λ b. cond b (Some n) f.last_event) event-next ∙ ap (λ (e : Option ℕ). cond (has_event_at net n r) (Some n) e) (given.noted.last_event ∙ taken.noted.last_event))
        (done.counts ∙ ap (map_indexed (λ i counts. counts_after (verdict_by net (frozen_at net n) r i) counts)) (given.noted.counts ∙ taken.noted.counts) ∙ counts-next)
        done.findings (done.given ∙ back) done.event (ap (λ (s : Site). idle_beats s) seen.site)
      where
        back : n ≡ suc n - 1
        back = omega arith

    pub next-beats : (port s q : ℕ) → neighbour net.relation.grid s q ≡ Some (r, port) → s < nodes net.relation.grid → get_or after.to_put port idle_beat ≡ beat_by net (state_at net (suc n)) s q (Some (r, port))
    next-beats port s q e m = subst (λ (T : State). get_or after.to_put port idle_beat ≡ beat_by net T s q (Some (r, port))) next_state (done.beats port s q e m)

  -- ---- one cycle of all

  module _ (n : ℕ) (few : n < 2 ^ 64 - 1) (ordered : IsOrdered net (state_at net n)) (middle : IsOrderedFrozen net (mid net (state_at net n))) (last : IsOrderedFrozen net (frozen_at net n))
      (seen : AreSeen net n) where
    abbrev before : List View
    before = (lockstep_at net n).views

    abbrev step : ℕ → View → View × List Beat
    step r view = local_step net.relation view (beats_at (lockstep_at net n).wires r) n

    abbrev steps : List (View × List Beat)
    steps = map_indexed step before

    -- some step
    abbrev d : View × List Beat
    d = (view_at net n 0, [])

    at-step : (r : ℕ) → r < nodes net.relation.grid → get_or steps r d ≡ local_step net.relation (view_at net n r) (beats_at (beats_in net (state_at net n)) r) n
    at-step r l =
        get_or-map_indexed step before r (view_at net n 0) d (omega (arith, count_views net n))
        ∙ ap (λ (v : View). local_step net.relation v (beats_at (lockstep_at net n).wires r) n) (ap (λ (vs : List View). get_or vs r (view_at net n 0)) seen.views ∙ get_or-tabulate (nodes net.relation.grid) r (view_at net n) (view_at net n 0) l)
        ∙ ap (λ (ws : List (List Beat)). local_step net.relation (view_at net n r) (beats_at ws r) n) seen.wires

    length-steps : length steps ≡ nodes net.relation.grid
    length-steps = length-map_indexed step before ∙ count_views net n

    view-next : (r : ℕ) → r < nodes net.relation.grid → (local_step net.relation (view_at net n r) (beats_at (beats_in net (state_at net n)) r) n).0 ≡ view_at net (suc n) r
    unfolding local_step
    view-next r l = next-view n r l few ordered middle last

    views-next : map (λ (s : View × List Beat). s.0) steps ≡ tabulate (nodes net.relation.grid) (view_at net (suc n))
    views-next =
        tabulate-from_each (nodes net.relation.grid) (view_at net (suc n)) (map (λ (s : View × List Beat). s.0) steps) d.0 (length-map steps (λ (s : View × List Beat). s.0) ∙ length-steps)
        (λ r l. get_or-map (λ (s : View × List Beat). s.0) steps r d d.0 (omega (arith, length-steps)) ∙ ap (λ (s : View × List Beat). s.0) (at-step r l) ∙ view-next r l)

    sent : List (List Beat)
    sent = map (λ (s : View × List Beat). s.1) steps

    sent-beats : (r port s q : ℕ) → r < nodes net.relation.grid → neighbour net.relation.grid s q ≡ Some (r, port) → s < nodes net.relation.grid
        → get_or (local_step net.relation (view_at net n r) (beats_at (beats_in net (state_at net n)) r) n).1 port idle_beat ≡ beat_by net (state_at net (suc n)) s q (Some (r, port))
    unfolding local_step
    sent-beats r port s q l e m = next-beats n r l few ordered middle last port s q e m

    beat-next : (grid : IsGrid net.relation.grid) (s q : ℕ) → s < nodes net.relation.grid → (o : Option (ℕ × ℕ)) → neighbour net.relation.grid s q ≡ o
        → beat_from (map (λ (x : View × List Beat). x.1) steps) o ≡ beat_by net (state_at net (suc n)) s q o
    beat-next grid s q m None e = refl
    beat-next grid s q m (Some to) e =
        let low = neighbour-range net.relation.grid s q (Some to) grid m e in
        ap (λ (row : List Beat). get_or row to.1 idle_beat)
        (get_or-map (λ (x : View × List Beat). x.1) steps to.0 d [] (omega (arith, length-steps, low.0)) ∙ ap (λ (x : View × List Beat). x.1) (at-step to.0 low.0))
        ∙ sent-beats to.0 to.1 s q low.0 e m

    pub seen-next : IsGrid net.relation.grid → AreSeen net (suc n)
    unfolding lockstep_at lockstep_cycle wires_after_puts beats_in
    seen-next grid = record {
      views = views-next;
      wires =
          tabulate-from_each (nodes net.relation.grid) (λ s. tabulate (local_port net.relation.grid) (λ q. beat_by net (state_at net (suc n)) s q (neighbour net.relation.grid s q)))
          (tabulate (nodes net.relation.grid) (λ s. tabulate (local_port net.relation.grid) (λ q. beat_from (map (λ (x : View × List Beat). x.1) steps) (neighbour net.relation.grid s q)))) []
          (length-tabulate (nodes net.relation.grid) _)
          (λ s m. get_or-tabulate (nodes net.relation.grid) s _ [] m ∙
          tabulate-from_each (local_port net.relation.grid) (λ q. beat_by net (state_at net (suc n)) s q (neighbour net.relation.grid s q))
          (tabulate (local_port net.relation.grid) (λ q. beat_from (map (λ (x : View × List Beat). x.1) steps) (neighbour net.relation.grid s q))) idle_beat
          (length-tabulate (local_port net.relation.grid) _)
          (λ q k. get_or-tabulate (local_port net.relation.grid) q _ idle_beat k ∙ beat-next grid s q m (neighbour net.relation.grid s q) refl));
    }

  -- ---- the opening, and every count

  opening : AreSeen net 0
  unfolding lockstep_at opening_lockstep beats_in state_at
  opening = record {
    views =
        tabulate-from_each (nodes net.relation.grid) (view_at net 0) (tabulate (nodes net.relation.grid) (λ r. opening_view (site_at net r) (starts_at net r) (ends_at net r))) (view_at net 0 0)
        (length-tabulate (nodes net.relation.grid) _)
        (λ r l. get_or-tabulate (nodes net.relation.grid) r _ (view_at net 0 0) l ∙ phases.opens r l);
    wires =
        tabulate-from_each (nodes net.relation.grid) (λ s. tabulate (local_port net.relation.grid) (λ q. beat_by net (opening_state net) s q (neighbour net.relation.grid s q)))
        (replicate (nodes net.relation.grid) (replicate (local_port net.relation.grid) idle_beat)) []
        (length-replicate (nodes net.relation.grid) _)
        (λ s m. get_or-replicate (nodes net.relation.grid) s (replicate (local_port net.relation.grid) idle_beat) [] m ∙
        tabulate-from_each (local_port net.relation.grid) (λ q. beat_by net (opening_state net) s q (neighbour net.relation.grid s q)) (replicate (local_port net.relation.grid) idle_beat) idle_beat
        (length-replicate (local_port net.relation.grid) _)
        (λ q k. get_or-replicate (local_port net.relation.grid) q idle_beat idle_beat k ∙ sym (no-beat net s q (neighbour net.relation.grid s q))));
  }

  -- at every count that a run can have
  pub all-seen : IsGood net → ((n : ℕ) → IsOrdered net (state_at net n)) → ((n : ℕ) → IsOrderedFrozen net (mid net (state_at net n))) → ((n : ℕ) → IsOrderedFrozen net (frozen_at net n))
      → (n : ℕ) → n ≤ CYCLE_LIMIT → AreSeen net n
  all-seen made ordered middle last zero l = opening
  all-seen made ordered middle last (suc n) l =
      seen-next n (omega arith) (ordered n) (middle n) (last n) (all-seen made ordered middle last n (omega arith)) made.relation.table.grid
