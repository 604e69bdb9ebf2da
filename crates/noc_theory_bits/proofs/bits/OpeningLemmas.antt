-- The words of all routers before the first cycle show the network.
use Rattle.std.proofs.Common.{◌≡◌, ℕ, ◌<◌, ◌≤◌, [], Option, Some, None, IfSome, sum, refl, ap, sym, ◌∙◌, subst, arith, length, ◌-◌}
use Rattle.std.specs.Prelude.{replicate, slice_index_or}
use Rattle.noc_theory.specs.Good.{IsGoodPacket}
use Rattle.noc_theory.specs.Network.{out_cycle, Source}
use Rattle.noc_theory.proofs.worms.OpeningLemmas.{at-source}
use Rattle.noc_sets.specs.Source.{Source as SourceWords}
use Rattle.noc_sets.specs.Counts.{no_counts}
use Rattle.noc_theory_bits.proofs.Common.{false≢true, get_or-replicate, nodes, has_bit-zero, size_of, View, IsGoodSetup, beats_at, beats_in, view_at, site_at, Setup, opening_state, state_at, arrival_in, packet_at, tail_place, opens, ShowsSource, ByVerdict, ShowsCounts, nine_counts, ten_counts, Links, Router, ShowsEnded, holds_tail, IsLayoutOf, Layout, ShowsRouter, ShowsNetwork, Words, all_starts, ShowsHolders, holder_at, ShowsWires}
use Rattle.noc_theory_bits.specs.Network.{HasOpened, HaveOpened}
use Rattle.noc_theory_bits.proofs.bits.HolderLemmas.{holder-has}
use Rattle.noc_theory_bits.proofs.network.NetworkLemmas.{good}
use Rattle.noc_theory_bits.proofs.opening.OpeningLemmas.{opening-shows}
use Rattle.noc_theory_bits.proofs.opening.OpeningWireLemmas.{opening-buffer, opening-wires}
use Rattle.noc_theory_bits.proofs.opening.ListedLemmas.{source-opens}

none-held : (net : Setup) (r : ℕ) (packet : ℕ → ℕ) → ShowsHolders net (state_at net 0) r packet
unfolding state_at opening_state
none-held net r packet i u = at (holder_at net (state_at net 0) r i) refl
  where
    at : (o : Option ℕ) → holder_at net (state_at net 0) r i ≡ o → IfSome (holder_at net (state_at net 0) r i) (λ p. packet i ≡ p)
    at None e = subst (λ (o : Option ℕ). IfSome o (λ p. packet i ≡ p)) (sym e) tt
    at (Some p) e = let h = holder-has net (state_at net 0) r i p e in absurd h.2

-- nothing was counted
none-counted : (net : Setup) (setup : IsGoodSetup net) (r : ℕ) → r < nodes net.relation.grid → (counts : ℕ → ByVerdict) → ((i : ℕ) → counts i ≡ no_counts) → ShowsCounts 0 counts (view_at net 0 r)
none-counted net setup r l counts none =
    subst (λ (v : View). ShowsCounts 0 counts v) (opens net (good net setup) r l)
    (λ i u. (
      counted i u ∙ sym (ap (ten_counts 0) (none i)),
      subst (λ (c : ByVerdict). sum (nine_counts c) ≤ 0) (sym (none i)) (omega arith),
    ))
  where
    counted : (i : ℕ) → i < size_of (site_at net r) → slice_index_or (replicate (size_of (site_at net r)) (replicate 10 0)) i [] ≡ ten_counts 0 no_counts
    counted i l = get_or-replicate (size_of (site_at net r)) i (replicate 10 0) [] l

pub router-opens : (count : ℕ) (net : Setup) (setup : IsGoodSetup net) (layout : Layout) → IsLayoutOf count net.relation net.depth layout → (r : ℕ) → r < nodes net.relation.grid → (w : Router)
    → HasOpened count net layout r w → ShowsRouter count net 0 r (all_starts net) w
router-opens count net setup layout is_layout r l w opened = record {
  column = opening-shows count net setup r l w.column w.marks layout.links layout.local is_layout.sides opened.column opened.marks;
  ended =
      subst (λ k. ShowsEnded k (view_at net 0 r)) (sym opened.ended)
      (record { each = λ i u. has_bit-zero i ∙ sym (ap holds_tail (opening-buffer net setup r l i)); below = λ k e. absurd (false≢true (sym (has_bit-zero k) ∙ e)) });
  holders = none-held net r w.marks.packet;
  wires = subst (λ (x : Links). ShowsWires (view_at net 0 r) x.flits x.tails x.credits (beats_at (beats_in net (state_at net 0)) r)) (sym opened.links) (opening-wires net setup r l);
  source = subst (λ (s : SourceWords). ShowsSource (all_starts net) s (view_at net 0 r)) (sym opened.source) (source-opens net setup r l);
  counts = none-counted net setup r l w.counts opened.counts;
}

-- no packet has arrived
none-arrived : (net : Setup) → IsGoodSetup net → (p : ℕ) → p < length net.packets → None ≡ arrival_in net (state_at net 0) p
unfolding state_at
none-arrived net setup p l =
    let sent : IsGoodPacket net.relation (packet_at net p) = setup.packets p _ l in
    let tail : tail_place net (opening_state net) p ≡ Source = at-source net p ((packet_at net p).length - 1) (l, (let some = sent.some_flit in omega (arith, some))) in
    sym (ap out_cycle tail)

pub network-opens : (count : ℕ) (net : Setup) → IsGoodSetup net → (layout : Layout) → IsLayoutOf count net.relation net.depth layout → (w : Words) → HaveOpened count net layout w → ShowsNetwork count net 0 w
network-opens count net setup layout is_layout w opened = record {
  limit = omega arith;
  routers = λ r l. router-opens count net setup layout is_layout r l (w.routers r) (opened.routers r l);
  last = opened.last;
  arrivals = λ p l. opened.arrivals p ∙ none-arrived net setup p l;
}
