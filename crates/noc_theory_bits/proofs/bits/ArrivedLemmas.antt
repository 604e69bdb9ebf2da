-- The channels of a router whose packets arrive in a cycle, by its words.
use Rattle.std.proofs.Common.{◌≡◌, ℕ, ◌+◌, ◌-◌, ◌*◌, ◌/◌, ◌<◌, true, List, ap, ap₂, sym, ◌∙◌, subst, arith, bit_and}
use Rattle.std.specs.Prelude.{◌&&◌, nat_eq, slice_get}
use Rattle.noc_topo.specs.Shape.{dimensions}
use Rattle.noc_theory_bits.proofs.Common.{and_parts, eq-eqb, eqb-true, local_port, nodes, ports, has_bit, Flit, both_members, InputState, Active, ask_of, Site, View, claim_in, first_flit, is_tail, size_of, view_round, CYCLE_LIMIT, IsGoodSetup, site_at, Setup, size, Column, RouterMarks, sends_by, HasDecided, Still, Allocation, phase_granted, with_grant, IsLayoutOf, Layout, Effects, Start, permitted, frozen_of}
use Rattle.noc_theory_bits.proofs.bits.CycleLemmas.{decisions, first-is, moved-are, put}
use Rattle.noc_theory_bits.proofs.bits.FreezeLemmas.{ShowsStill}
use Rattle.noc_theory_bits.proofs.network.ArrivalLemmas.{GoesOut}
use Rattle.noc_theory_bits.proofs.network.MovingLemmas.{moves-are, moves_at}
use Rattle.noc_theory_bits.proofs.network.NetworkLemmas.{frozen-seen, frozen_view}
use Rattle.noc_theory_bits.proofs.network.PutLemmas.{IsMover, bit-moves}

-- these are the input channels of router r whose tails leave it by the local port, and these the
-- numbers of packets
pub record ShowsArrived (net : Setup) (n r : ℕ) (packets : ℕ → ℕ) (arrived : ℕ) : Type 0 where
  pub goes : (i : ℕ) → i < size net → has_bit arrived i ≡ true → (x : GoesOut net n r i) × (x.mover.flit.last ≡ true) × (packets i ≡ x.mover.flit.packet)
  pub comes : (i : ℕ) (x : GoesOut net n r i) → x.mover.flit.last ≡ true → (has_bit arrived i ≡ true) × (packets i ≡ x.mover.flit.packet)

module _ {count : ℕ} (net : Setup) (setup : IsGoodSetup net) (n r : ℕ) (l : r < nodes net.relation.grid) (layout : Layout) (is_layout : IsLayoutOf count net.relation net.depth layout) (starts : List Start) (few : n < CYCLE_LIMIT)
    (s : Still) (shows : ShowsStill count net n r starts (frozen_view net setup n r l) s.column s.marks s.ended s.filled s.source)
    (a b : Allocation) (picked ahead : ℕ) (e : Effects) (c : Column) (w : RouterMarks) (ended : ℕ)
    (decided : HasDecided (ports net.relation.grid) net.relation.vcs layout (permitted net r) s a b picked ahead e c w ended) where
  abbrev x : View
  x = frozen_view net setup n r l

  x-site : (frozen_view net setup n r l).site ≡ site_at net r
  x-site = (frozen-seen net setup n r l).site

  inside : (i : ℕ) → i < size net → i < size_of (frozen_view net setup n r l).site
  inside i u = subst (λ (t : Site). i < size_of t) (sym x-site) u

  -- what moves by the words is what moves
  same-moves : (i : ℕ) → i < size net → has_bit e.moved i ≡ has_bit (moves_at net n r) i
  same-moves i u =
      (moved-are net setup n r l layout is_layout starts few s shows a b picked ahead e c w ended decided).each i (inside i u)
      ∙ sym ((moves-are (frozen_of net n r)).each i (inside i u))

  tails-of : (i : ℕ) → i < size net → has_bit e.released i ≡ (has_bit e.moved i && is_tail (first_flit x i))
  tails-of i u = (decisions net setup n r l layout is_layout starts few s shows a b picked ahead e c w ended decided).released i (inside i u)

  some-vcs : 0 < (frozen_view net setup n r l).site.vcs
  some-vcs = subst (λ (t : Site). 0 < t.vcs) (sym x-site) setup.relation.table.some_vcs

  last-port : ports net.relation.grid - 1 ≡ local_port net.relation.grid
  last-port = let z : 2 * dimensions net.relation.grid + 1 - 1 ≡ 2 * dimensions net.relation.grid = omega arith in z

  -- a channel that moves sends by the port of the channel that it owns
  module _ (i : ℕ) (u : i < size net) (m : IsMover (site_at net r) (frozen_view net setup n r l) i) where
    granted : phase_granted x i ≡ Active m.out
    granted = ap (λ (p : InputState). with_grant (view_round x).grants (ask_of (claim_in x p)) i p) m.phase

    sends : has_bit (b.marks.to_port (ports net.relation.grid - 1)) i ≡ nat_eq (m.out / net.relation.vcs) (local_port net.relation.grid)
    sends =
        ap (λ q. has_bit (b.marks.to_port q) i) last-port
        ∙ (put net setup n r l layout is_layout starts few s shows a b picked ahead e c w ended decided).to_port (local_port net.relation.grid) i
        (subst (λ (t : Site). local_port net.relation.grid < ports t.grid) (sym x-site) (omega arith)) (inside i u)
        ∙ ap (sends_by x.site.vcs (local_port net.relation.grid)) granted
        ∙ ap (λ (t : Site). nat_eq (m.out / t.vcs) (local_port net.relation.grid)) x-site

    tail : is_tail (first_flit x i) ≡ m.flit.last
    tail = ap (λ (fs : List Flit). is_tail (slice_get fs 0)) m.buffer

    known : s.marks.packet i ≡ m.flit.packet
    known = (first-is net setup n r l layout is_layout starts few s shows a b picked ahead e c w ended decided i m.flit m.rest u m.buffer).0

  pub arrived-shows : ShowsArrived net n r s.marks.packet (bit_and e.released (b.marks.to_port (ports net.relation.grid - 1)))
  arrived-shows = record {
    goes = λ i u h.
        let parts = and_parts _ _ (sym (both_members e.released (b.marks.to_port (ports net.relation.grid - 1)) i) ∙ h) in
        let moving = and_parts (has_bit e.moved i) (is_tail (first_flit x i)) (sym (tails-of i u) ∙ parts.0) in
        let bit : has_bit (moves_at net n r) i ≡ true = sym (same-moves i u) ∙ moving.0 in
        let m = subst (λ (t : Site). IsMover t (frozen_view net setup n r l) i) x-site (bit-moves net.relation x (moves_at net n r) some-vcs (moves-are (frozen_of net n r)) i (inside i u) bit) in (
          record { known = l; bit = bit; mover = m; port = eqb-true _ _ (sym (sends i u m) ∙ parts.1) },
          sym (tail i u m) ∙ moving.1,
          known i u m,
        );
    comes = λ i y last.
        let u = y.mover.channel in (
          both_members e.released (b.marks.to_port (ports net.relation.grid - 1)) i
              ∙ ap₂ (λ p q. p && q) (tails-of i u ∙ ap₂ (λ p q. p && q) (same-moves i u ∙ y.bit) (tail i u y.mover ∙ last)) (sends i u y.mover ∙ eq-eqb _ _ y.port),
          known i u y.mover,
        );
  }
