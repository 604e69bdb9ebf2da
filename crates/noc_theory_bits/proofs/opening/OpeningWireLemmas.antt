-- Before the first cycle nothing is on the wires, and the rings are empty.
use Rattle.std.proofs.Common.{◌≡◌, ℕ, ◌-◌, ◌/◌, ◌%◌, ◌<◌, ◌≤◌, false, List, [], length, None, ap, sym, ◌∙◌, arith, inl, inr, get_or}
use Rattle.std.specs.Prelude.{◌⊎◌, is_some}
use Rattle.noc_alloc.proofs.RequestLemmas.{at_replicate}
use Rattle.noc_theory.proofs.join.OpeningStateLemmas.{no-beat}
use Rattle.noc_theory_bits.proofs.Common.{cases_lt, false≢true, get_or_past, tabulate, is_some_of, nodes, local_port, neighbour, get_or-tabulate, length-tabulate, has_bit-zero, Beat, View, size_of, idle_beat, view_buffer, is_tail, IsGoodSetup, beat_by, beats_at, beats_in, site_at, view_at, Setup, opening_state, state_at, opens, flit_from, flit_on_vc, credit_from, ShowsWires}
use Rattle.noc_theory_bits.proofs.network.NetworkLemmas.{good}
use Rattle.noc_theory_bits.proofs.wiring.WireLemmas.{flit-at, credit-at}

module _ (net : Setup) (setup : IsGoodSetup net) (r : ℕ) (l : r < nodes net.relation.grid) where
  abbrev first_beats : List Beat
  first_beats = beats_at (beats_in net (state_at net 0)) r

  row : first_beats ≡ tabulate (local_port net.relation.grid) (λ q. beat_by net (opening_state net) r q (neighbour net.relation.grid r q))
  unfolding beats_in state_at
  row = get_or-tabulate (nodes net.relation.grid) r (λ s. tabulate (local_port net.relation.grid) (λ q. beat_by net (opening_state net) s q (neighbour net.relation.grid s q))) [] l

  -- each beat carries nothing
  idle : (q : ℕ) → get_or first_beats q idle_beat ≡ idle_beat
  idle q = at (cases_lt q (local_port net.relation.grid))
    where
      at : (q < local_port net.relation.grid) ⊎ (local_port net.relation.grid ≤ q) → get_or first_beats q idle_beat ≡ idle_beat
      at (inl u) =
          ap (λ (beats : List Beat). get_or beats q idle_beat) row
          ∙ get_or-tabulate (local_port net.relation.grid) q (λ p. beat_by net (opening_state net) r p (neighbour net.relation.grid r p)) idle_beat u
          ∙ no-beat net r q (neighbour net.relation.grid r q)
      at (inr past) = get_or_past first_beats q idle_beat (let k : length first_beats ≡ local_port net.relation.grid = ap length row ∙ length-tabulate (local_port net.relation.grid) _ in omega (arith, k, past))

  no-flit : (vcs i : ℕ) → flit_from vcs 0 first_beats i ≡ None
  no-flit vcs i = flit-at vcs 0 first_beats i (omega arith) ∙ ap (λ (b : Beat). flit_on_vc (i % vcs) b.flit) (idle (i / vcs - 0))

  no-credit : (vcs o : ℕ) → credit_from vcs 0 first_beats o ≡ false
  no-credit vcs o = credit-at vcs 0 first_beats o (omega arith) ∙ ap (λ (b : Beat). is_some_of b.credit (o % vcs)) (idle (o / vcs - 0))

  pub opening-buffer : (i : ℕ) → view_buffer (view_at net 0 r) i ≡ []
  opening-buffer i = ap (λ (v : View). view_buffer v i) (sym (opens net (good net setup) r l)) ∙ at_replicate [] (size_of (site_at net r)) i

  pub opening-wires : ShowsWires (view_at net 0 r) 0 0 0 (beats_at (beats_in net (state_at net 0)) r)
  opening-wires = record {
    comes = λ i u. has_bit-zero i ∙ sym (ap is_some (no-flit (view_at net 0 r).site.vcs i));
    comes_below = λ k e. absurd (false≢true (sym (has_bit-zero k) ∙ e));
    tail_comes = λ i u. has_bit-zero i ∙ sym (ap is_tail (no-flit (view_at net 0 r).site.vcs i));
    tail_comes_below = λ k e. absurd (false≢true (sym (has_bit-zero k) ∙ e));
    returns = λ o u. has_bit-zero o ∙ sym (no-credit (view_at net 0 r).site.vcs o);
    returns_below = λ k e. absurd (false≢true (sym (has_bit-zero k) ∙ e));
  }
