-- What goes over the links of a network in a cycle: the flits that have gone to their targets, and
-- the credits that went back for them.
use Rattle.std.proofs.Common.{◌≡◌, ℕ, suc, ◌-◌, ◌/◌, ◌%◌, ◌<◌, ◌≤◌, List, [], length, Option, Some, None, refl, ap, sym, ◌∙◌, subst, arith, inl, inr, get_or}
use Rattle.std.specs.Prelude.{◌⊎◌}
use Rattle.noc_topo.specs.Shape.{IsGrid, IsLinkBack}
use Rattle.noc_topo.proofs.LinkLemmas.{hop_of}
use Rattle.noc_theory.proofs.join.JoinLemmas.{next-beats}
use Rattle.noc_theory.proofs.join.JoinedLemmas.{phases}
use Rattle.noc_theory.proofs.join.LockstepTheoremLemmas.{are-short}
use Rattle.noc_theory_bits.proofs.Common.{cases_lt, get_or_past, tabulate, is_some_of, nodes, local_port, neighbour, link_back, get_or-tabulate, length-tabulate, Beat, Site, idle_beat, decisions_of, beat_out, CYCLE_LIMIT, IsGoodSetup, beats_at, beats_in, beat_by, site_at, Setup, state_at, ordered-state, ordered-mid, ordered-frozen, flit_from, flit_on_vc, credit_from, frozen_of}
use Rattle.noc_theory_bits.proofs.network.PutLemmas.{beat-next}
use Rattle.noc_theory_bits.proofs.network.NetworkLemmas.{good, frozen-seen}
use Rattle.noc_theory_bits.proofs.wiring.WireLemmas.{flit-at, credit-at}

module _ (net : Setup) (setup : IsGoodSetup net) where
  is-grid : IsGrid net.relation.grid
  is-grid = (good net setup).relation.table.grid

  module _ (n : ℕ) where
    same-site : (r : ℕ) → r < nodes net.relation.grid → (frozen_of net n r).site ≡ site_at net r
    same-site r l = (frozen-seen net setup n r l).site

    -- ---- the beats of the next count
    -- what the router at the other end of a link has put
    abbrev pub put_by : Option (ℕ × ℕ) → Beat
    put_by None = idle_beat
    put_by (Some (to, port)) = beat_out (decisions_of net.relation (frozen_of net n to)) (frozen_of net n to) port

    module _ (few : n < CYCLE_LIMIT) (r : ℕ) (l : r < nodes net.relation.grid) where
      abbrev pub next_beats : List Beat
      next_beats = beats_at (beats_in net (state_at net (suc n))) r

      row : next_beats ≡ tabulate (local_port net.relation.grid) (λ q. beat_by net (state_at net (suc n)) r q (neighbour net.relation.grid r q))
      unfolding beats_in
      row = get_or-tabulate (nodes net.relation.grid) r (λ s. tabulate (local_port net.relation.grid) (λ q. beat_by net (state_at net (suc n)) s q (neighbour net.relation.grid s q))) [] l

      here : (q : ℕ) → q < local_port net.relation.grid → get_or next_beats q idle_beat ≡ beat_by net (state_at net (suc n)) r q (neighbour net.relation.grid r q)
      here q u = ap (λ (beats : List Beat). get_or beats q idle_beat) row ∙ get_or-tabulate (local_port net.relation.grid) q (λ p. beat_by net (state_at net (suc n)) r p (neighbour net.relation.grid r p)) idle_beat u

      beat-came : (q : ℕ) → get_or next_beats q idle_beat ≡ put_by (neighbour net.relation.grid r q)
      beat-came q = by (neighbour net.relation.grid r q) refl
        where
          by : (o : Option (ℕ × ℕ)) → neighbour net.relation.grid r q ≡ o → get_or next_beats q idle_beat ≡ put_by o
          by None e = at (cases_lt q (local_port net.relation.grid))
            where
              at : (q < local_port net.relation.grid) ⊎ (local_port net.relation.grid ≤ q) → get_or next_beats q idle_beat ≡ idle_beat
              at (inl u) = here q u ∙ ap (beat_by net (state_at net (suc n)) r q) e
              at (inr past) = get_or_past next_beats q idle_beat (let k : length next_beats ≡ local_port net.relation.grid = ap length row ∙ length-tabulate (local_port net.relation.grid) _ in omega (arith, k, past))
          by (Some (to, port)) e =
              let back : IsLinkBack net.relation.grid r q to port = link_back net.relation.grid r q to port is-grid l e in
              let link : q < local_port net.relation.grid = (hop_of net.relation.grid r q to port is-grid e).link in
              let out : port < local_port (frozen_of net n to).site.grid = subst (λ (x : Site). port < local_port x.grid) (sym (same-site to back.node)) back.port in
              here q link
              ∙ ap (beat_by net (state_at net (suc n)) r q) e
              ∙ sym (next-beats net (phases net (good net setup) (are-short net setup)) n to back.node (omega (arith, few)) (ordered-state net (good net setup) n) (ordered-mid net (good net setup) n) (ordered-frozen net (good net setup) n) port r q e l)
              ∙ beat-next net.relation (frozen_of net n to) port out

      -- the flit that comes to an input channel, and whether a credit comes to an output channel
      pub flit-came : (i : ℕ) → flit_from net.relation.vcs 0 next_beats i ≡ flit_on_vc (i % net.relation.vcs) (put_by (neighbour net.relation.grid r (i / net.relation.vcs))).flit
      flit-came i =
          flit-at net.relation.vcs 0 next_beats i (omega arith)
          ∙ ap (λ k. flit_on_vc (i % net.relation.vcs) (get_or next_beats k idle_beat).flit) (let z : i / net.relation.vcs - 0 ≡ i / net.relation.vcs = omega arith in z)
          ∙ ap (λ (b : Beat). flit_on_vc (i % net.relation.vcs) b.flit) (beat-came (i / net.relation.vcs))

      pub credit-came : (o : ℕ) → credit_from net.relation.vcs 0 next_beats o ≡ is_some_of (put_by (neighbour net.relation.grid r (o / net.relation.vcs))).credit (o % net.relation.vcs)
      credit-came o =
          credit-at net.relation.vcs 0 next_beats o (omega arith)
          ∙ ap (λ k. is_some_of (get_or next_beats k idle_beat).credit (o % net.relation.vcs)) (let z : o / net.relation.vcs - 0 ≡ o / net.relation.vcs = omega arith in z)
          ∙ ap (λ (b : Beat). is_some_of b.credit (o % net.relation.vcs)) (beat-came (o / net.relation.vcs))
