-- The words of a router in which nothing happens show it as long as that is so, with what is
-- counted meanwhile.
use Rattle.std.proofs.Common.{◌≡◌, ℕ, suc, ◌+◌, ◌-◌, ◌<◌, ◌≤◌, false, List, [], sum, ap, sym, ◌∙◌, subst, arith}
use Rattle.std.specs.Prelude.{slice_index_or}
use Rattle.noc_view.specs.Still.{counted_times, view_after_waiting}
use Rattle.noc_view.proofs.StillLemmas.{still-verdict}
use Rattle.noc_sets.specs.Counts.{RunOn}
use Rattle.noc_theory_bits.proofs.Common.{nodes, get_or-map_indexed, Flit, MembersAreBelow, IsHeldBefore, takes_effect, Site, View, counts_after, decided_verdict, decisions_of, size_of, CYCLE_LIMIT, IsGoodSetup, IsSilent, beats_at, beats_in, view_at, Setup, state_at, ShowsCounts, nine_counts, ten_counts, ByVerdict, Start, Router, holds_tail, ShowsRouter, ShowsHolders}
use Rattle.noc_theory_bits.proofs.network.NetworkLemmas.{start-size, start-tidy}
use Rattle.noc_theory_bits.proofs.routers.SilentLemmas.{bare, bare-column}
use Rattle.noc_theory_bits.proofs.routers.StayLemmas.{counts-many, source-same, wires-same}
use Rattle.noc_theory_bits.proofs.stuck.StillCountLemmas.{Waits, still-counts, still-few, waits-for}
use Rattle.noc_theory_bits.proofs.routers.StillLemmas.{all-still, still-silent}
use Rattle.noc_theory_bits.proofs.stuck.StillVerdictLemmas.{no-loss}

-- ---- after so many cycles
module _ (net : Setup) (setup : IsGoodSetup net) (n k end : ℕ) (sums : n + suc k ≡ end) (limit : end ≤ CYCLE_LIMIT)
    (effect : (r : ℕ) → r < nodes net.relation.grid → takes_effect net.relation (view_at net n r) ≡ false)
    (held : (r : ℕ) → r < nodes net.relation.grid → IsHeldBefore end (view_at net n r))
    (silent : (r : ℕ) → r < nodes net.relation.grid → IsSilent (beats_at (beats_in net (state_at net n)) r)) where
  less : n < end
  less = omega (arith, sums)

  -- all else of a router is as it was
  pub bare-stays : (r : ℕ) → r < nodes net.relation.grid → bare (view_at net end r) ≡ bare (view_at net n r)
  unfolding view_after_waiting
  bare-stays r l = ap (λ (u : View). record u { counts = []; given = 0 }) (all-still net setup n end less limit effect held silent r l)

  pub silent-then : (r : ℕ) → r < nodes net.relation.grid → IsSilent (beats_at (beats_in net (state_at net end)) r)
  silent-then = still-silent net setup n end less limit effect held silent

  -- each channel has its verdict so often more
  pub counted-then : (r i : ℕ) → r < nodes net.relation.grid → i < size_of (view_at net n r).site
      → slice_index_or (view_at net end r).counts i [] ≡ counted_times (suc k) (decided_verdict (decisions_of net.relation (view_at net n r)) i) (slice_index_or (view_at net n r).counts i [])
  unfolding view_after_waiting
  counted-then r i l u =
      let times : end - n ≡ suc k = omega (arith, sums) in
      let long = counts-many net setup n r in
      ap (λ (x : View). slice_index_or x.counts i []) (all-still net setup n end less limit effect held silent r l)
      ∙ get_or-map_indexed (λ j counts. counted_times (end - n) (decided_verdict (decisions_of net.relation (view_at net n r)) j) counts) (view_at net n r).counts i [] [] (omega (arith, long, u))
      ∙ ap (λ m. counted_times m (decided_verdict (decisions_of net.relation (view_at net n r)) i) (slice_index_or (view_at net n r).counts i [])) times

-- ---- words that show a router at a count and, where it had no event, at the next, show it as long as nothing happens
module _ (net : Setup) (setup : IsGoodSetup net) (n t end : ℕ) (sums : n + suc t ≡ end) (limit : end ≤ CYCLE_LIMIT)
    (effect : (r : ℕ) → r < nodes net.relation.grid → takes_effect net.relation (view_at net n r) ≡ false)
    (held : (r : ℕ) → r < nodes net.relation.grid → IsHeldBefore end (view_at net n r))
    (silent : (r : ℕ) → r < nodes net.relation.grid → IsSilent (beats_at (beats_in net (state_at net n)) r)) where
  -- in the first of these cycles
  held-once : (r : ℕ) → r < nodes net.relation.grid → IsHeldBefore (suc n) (view_at net n r)
  held-once r l m u = held r l m (omega (arith, u, sums))

  once : n + suc 0 ≡ suc n
  once = omega arith

  few : suc n ≤ CYCLE_LIMIT
  few = omega (arith, sums, limit)

  -- from the next count on it stays
  pub stays-on : (r : ℕ) → r < nodes net.relation.grid → bare (view_at net (suc n) r) ≡ bare (view_at net end r)
  stays-on r l = bare-stays net setup n 0 (suc n) once few effect held-once silent r l ∙ sym (bare-stays net setup n t end sums limit effect held silent r l)

  module _ (r : ℕ) (l : r < nodes net.relation.grid) {count : ℕ} (starts : List Start) (was is : Router)
      (before : ShowsCounts n was.counts (view_at net n r)) (after : ShowsRouter count net (suc n) r starts is) (held_then : ShowsHolders net (state_at net end) r is.marks.packet)
      (later : ℕ → ByVerdict) (run : (i : ℕ) → i < size_of (view_at net n r).site → RunOn t (was.counts i) (is.counts i) (later i)) where
    site-once : (view_at net (suc n) r).site ≡ (view_at net n r).site
    site-once = ap (λ (v : View). v.site) (bare-stays net setup n 0 (suc n) once few effect held-once silent r l)

    site-then : (view_at net end r).site ≡ (view_at net (suc n) r).site
    site-then = ap (λ (v : View). v.site) (sym (stays-on r l))

    waits : (i : ℕ) → i < size_of (view_at net n r).site → Waits (decided_verdict (decisions_of net.relation (view_at net n r)) i)
    waits i u =
        waits-for (decided_verdict (decisions_of net.relation (view_at net n r)) i) (still-verdict net.relation (view_at net n r) (effect r l) i)
        (no-loss net.relation (view_at net n r) (effect r l) (start-size net setup n r l).some (start-tidy net setup n r l).owned_below i u)

    counts : ShowsCounts end later (view_at net end r)
    counts i u =
        let here : i < size_of (view_at net n r).site = subst (λ (s : Site). i < size_of s) (site-then ∙ site-once) u in
        let then : i < size_of (view_at net (suc n) r).site = subst (λ (s : Site). i < size_of s) site-then u in
        let now = slice_index_or (view_at net n r).counts i [] in
        let v = decided_verdict (decisions_of net.relation (view_at net n r)) i in
        let small : n + suc t < 18446744073709551616 = omega (arith, sums, limit) in
        let next : counts_after (decided_verdict (decisions_of net.relation (view_at net n r)) i) (slice_index_or (view_at net n r).counts i [])
        ≡ ten_counts (suc n) (is.counts i)
        = sym (counted-then net setup n 0 (suc n) once few effect held-once silent r i l here) ∙ (after.counts i then).0 in (
          counted-then net setup n t end sums limit effect held silent r i l here
              ∙ still-counts n t (was.counts i) (is.counts i) (later i) v (waits i here) small now
              (before i here).0 (before i here).1 next (run i here)
              ∙ ap (λ m. ten_counts m (later i)) sums,
          subst (λ m. sum (nine_counts (later i)) ≤ m) sums
              (still-few n t (was.counts i) (is.counts i) (later i) v (waits i here) small now
              (before i here).0 (before i here).1 next (run i here)),
        )

    pub shows-on : ShowsRouter count net end r starts (record is { counts = later })
    shows-on =
        let same = stays-on r l in
        record {
          column = bare-column count is.column is.marks (view_at net (suc n) r) (view_at net end r) same after.column;
          wires = wires-same (view_at net (suc n) r) (view_at net end r) is.links.flits is.links.tails is.links.credits (beats_at (beats_in net (state_at net (suc n))) r) (beats_at (beats_in net (state_at net end)) r)
              site-then (silent-then net setup n 0 (suc n) once few effect held-once silent r l)
              (silent-then net setup n t end sums limit effect held silent r l) after.wires;
          source = source-same starts is.source (view_at net (suc n) r) (view_at net end r) (ap (λ (v : View). v.queue) (sym same)) (ap (λ (v : View). v.sending) (sym same)) after.source;
          counts = counts;
          ended = record {
            each = λ i u.
                after.ended.each i (subst (λ (s : Site). i < size_of s) site-then u)
                ∙ ap (λ (bs : List (List Flit)). holds_tail (slice_index_or bs i [])) (ap (λ (v : View). v.buffers) same);
            below = subst (λ (s : Site). MembersAreBelow (size_of s) is.ended) (sym site-then) after.ended.below;
          };
          holders = held_then;
        }
