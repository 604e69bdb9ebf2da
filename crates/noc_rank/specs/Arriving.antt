-- Steps of packets that came to a router on a channel with a rank, and the first of them that does
-- not rise.
use Rattle.std.specs.Prelude.{ℕ, ◌<◌, Bool}
use Rattle.noc_topo.specs.Shape.{nodes}
use Rattle.noc_route.specs.Routes.{set_at}
use Rattle.noc_rank.specs.declared.rising.Arrival.{Arrival}
use Rattle.noc_rank.specs.declared.rising.Fall.{Fall}
use Rattle.noc_rank.specs.NotRising.{falls_to, link_output_count, HasNone, IsFirstFrom}

-- whether a set of the router has output channel number i, whose rank is not greater
abbrev pub falls_in : Arrival → ℕ → ℕ → Bool
falls_in a set i = falls_to a.ranked.now.ranks.now a.router set a.rank i

-- each step rises
abbrev pub HasNoneOf : Arrival → Type 0
HasNoneOf a = let k = a.ranked.now.ranks.now in
    (t : ℕ) → t < nodes k.grid
    → HasNone (falls_in a (set_at a.ranked.now.relation.now a.class a.router a.in_port a.in_vc t))
    (link_output_count k)

-- the first step that does not rise
abbrev pub IsFirstOf : Arrival → Fall → Type 0
IsFirstOf a fall =
    IsFirstFrom a.ranked.now.relation.now a.ranked.now.ranks.now a.class a.router a.in_port a.in_vc
    a.rank fall
