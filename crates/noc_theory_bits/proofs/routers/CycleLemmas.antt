-- A whole cycle of one router: the words that showed its frozen state show its view at the next
-- count.
use Rattle.std.proofs.Common.{◌≡◌, ℕ, ◌<◌, ◌≤◌, sym, subst}
use Rattle.noc_theory_bits.proofs.Common.{nodes, ports, Site, size_of, IsGoodSetup, site_at, Setup, Surroundings, IsLayoutOf, Layout, AreTails, AreSides, AreFilled}
use Rattle.noc_theory_bits.proofs.network.NetworkLemmas.{frozen_view, frozen-seen, frozen-tidy, frozen-size, frozen-full, frozen-arbiters}
use Rattle.noc_theory_bits.proofs.network.PointerLemmas.{AreArbiters}
use Rattle.noc_theory_bits.proofs.routers.ChosenLemmas.{IsStill}

module _ (net : Setup) (setup : IsGoodSetup net) (n r : ℕ) (l : r < nodes net.relation.grid) where
  site-is : (frozen_view net setup n r l).site ≡ site_at net r
  site-is = (frozen-seen net setup n r l).site

  pub still : {count : ℕ} (layout : Layout) (x : Surroundings) → IsLayoutOf count net.relation net.depth layout
      → AreFilled (frozen_view net setup n r l) x.filled → AreTails x.tail (frozen_view net setup n r l) → IsStill net.relation layout x (frozen_view net setup n r l)
  still layout x is_layout fill tails = record {
    is_relation = setup.relation;
    narrow = is_layout.few;
    tidy = frozen-tidy net setup n r l;
    size = frozen-size net setup n r l;
    full = frozen-full net setup n r l;
    arbiters = subst (λ (s : Site). AreArbiters (ports s.grid) s.vcs (frozen_view net setup n r l).arbiters) (sym site-is) (frozen-arbiters net setup n r l);
    some_place = subst (λ (s : Site). 0 < s.depth) (sym site-is) setup.some_depth;
    few = subst (λ (s : Site). size_of s ≤ 63) (sym site-is) is_layout.few;
    sides = subst (λ (s : Site). AreSides s.grid s.vcs layout.links layout.local) (sym site-is) is_layout.sides;
    filled = fill;
    tails = tails;
  }
