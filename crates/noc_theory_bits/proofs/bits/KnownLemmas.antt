-- The numbers that a still router keeps of its channels with a flit are those of packets.
use Rattle.std.proofs.Common.{◌≡◌, ℕ, ◌^◌, ◌<◌, true, List, [], ◌∷◌, length, Option, Some, IfSome, refl, subst, sym, ◌∙◌}
use Rattle.std.specs.Prelude.{not}
use Rattle.noc_sets.specs.Cycle.{packets_in, still_of}
use Rattle.noc_theory_bits.proofs.Common.{false≢true, nodes, has_bit, Flit, is_empty, Site, size_of, view_buffer, IsGoodSetup, Setup, frozen_at, size, CYCLE_LIMIT, Router, IsLayoutOf, Layout, AreOwners, lane_raised, Start, ShowsRouter, frozen_of, holder_at}
use Rattle.noc_theory_bits.proofs.bits.FreezeLemmas.{ShowsStill, shows-still}
use Rattle.noc_theory_bits.proofs.bits.HolderLemmas.{first-holder, holder-has}
use Rattle.noc_theory_bits.proofs.network.NetworkLemmas.{frozen-seen, steady-still}

-- who holds a channel is a packet
pub holder-known : (net : Setup) (setup : IsGoodSetup net) (n r i p : ℕ) → holder_at net (frozen_at net n) r i ≡ Some p → p < length net.packets
holder-known net setup n r i p e = let h = holder-has net (frozen_at net n) r i p e in (steady-still net setup n).worm.known h.0 p h.2

pub filled-known : (count : ℕ) (net : Setup) (layout : Layout) (starts : List Start) (n r i up : ℕ) (b : Router) → IsGoodSetup net → n < CYCLE_LIMIT → IsLayoutOf count net.relation net.depth layout → r < nodes net.relation.grid
    → ShowsRouter count net n r starts b → AreOwners (lane_raised b.links.credits b.column) b.marks.owner up → up < 2 ^ 64 → has_bit (still_of layout starts n up b).filled i ≡ true
    → (i < size net) × (packets_in layout starts n b i < length net.packets)
filled-known count net layout starts n r i up b setup few is_layout l shows ups fits e = (inside, by (view_buffer (frozen_of net n r) i) refl (sym (still.fill.each i small) ∙ e))
  where
    still : ShowsStill count net n r starts (frozen_of net n r) (still_of layout starts n up b).column (still_of layout starts n up b).marks (still_of layout starts n up b).ended (still_of layout starts n up b).filled (still_of layout starts n up b).source
    still = shows-still net setup n r l starts b shows few layout up is_layout ups fits

    small : i < size_of (frozen_of net n r).site
    small = still.fill.below i e

    inside : i < size net
    inside = subst (λ (s : Site). i < size_of s) (frozen-seen net setup n r l).site small

    by : (flits : List Flit) → view_buffer (frozen_of net n r) i ≡ flits → not (is_empty flits) ≡ true → packets_in layout starts n b i < length net.packets
    by [] same some = absurd (false≢true some)
    by (f ∷ rest) same some =
        let holds = first-holder net setup n r l i f rest inside same in
        let number : packets_in layout starts n b i ≡ f.packet = subst (λ (o : Option ℕ). IfSome o (λ p. packets_in layout starts n b i ≡ p)) holds (still.holders i inside) in
        subst (λ p. p < length net.packets) (sym number) (holder-known net setup n r i f.packet holds)
