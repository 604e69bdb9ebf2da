-- A network of blocks: its tile has all of them.
use Rattle.std.proofs.Common.{◌≡◌, ℕ, ◌+◌, ◌*◌, ◌/◌, ◌<◌, ◌≤◌, Bool, true, length, ap, sym, ◌∙◌, subst, arith}
use Rattle.std.specs.Prelude.{nat_le, nat_lt}
use Rattle.std.proofs.lemmas.Bool.{and_from, and_parts, le-leb, leb-true, lt-ltb, ltb-true}
use Rattle.noc_topo.specs.Shape.{nodes}
use Rattle.noc_sets.specs.Cycle.{Router}
use Rattle.noc_theory.specs.Good.{IsGoodSetup}
use Rattle.noc_theory.specs.Network.{Setup, packet_at}
use Rattle.noc_theory_bits.specs.Network.{ShowsNetwork, ShowsOwn, Words}
use Rattle.noc_theory_bits.proofs.bits.NetworkLemmas.{own-network}
use Rattle.noc_theory_cycles.specs.Fits.{FitsNetwork, bits_of, layout_of}
use Rattle.noc_theory_cycles.proofs.LayoutLemmas.{fits-network}
use Rattle.noc_engine.specs.Origins.{net_in}
use Rattle.noc_engine.specs.Shows.{IsPlanOf, ShowsAt, ShowsTile, has_block, has_router, words_in}
use Rattle.noc_engine.specs.Steps.{HasStepped}
use Rattle.noc_engine.specs.declared.columns.Columns.{Columns}
use Rattle.noc_engine.specs.declared.origin.Origin.{Origin}
use Rattle.noc_engine.specs.declared.plan.Plan.{Plan}
use Rattle.noc_engine.specs.declared.tile.Tile.{Tile}

-- ---- what stays as it is
pub plan-fits : (net : Setup) (plan : Plan) → IsGoodSetup net → IsPlanOf net plan → FitsNetwork (bits_of plan.pattern) net (layout_of plan.pattern) plan.pattern
plan-fits net plan good is = fits-network net good plan.pattern is.pattern_is

-- ---- the blocks of a tile
pub block-is : (tile : Tile) (b : ℕ) → has_block tile b ≡ true → (tile.first ≤ b) × (b < tile.first + length tile.blocks.items)
block-is tile b e =
    let both = and_parts (nat_le tile.first b) (nat_lt b (tile.first + length tile.blocks.items)) e in
    (leb-true tile.first b both.0, ltb-true b (tile.first + length tile.blocks.items) both.1)

pub is-block : (tile : Tile) (b : ℕ) → tile.first ≤ b → b < tile.first + length tile.blocks.items → has_block tile b ≡ true
is-block tile b low high = and_from _ _ (le-leb tile.first b low) (lt-ltb b (tile.first + length tile.blocks.items) high)

pub is-router : (tile : Tile) (b r : ℕ) → b < length tile.blocks.items → r < 64 → has_router tile (64 * (tile.first + b) + r) ≡ true
is-router tile b r l m = is-block tile ((64 * (tile.first + b) + r) / 64) (omega (arith, m)) (omega (arith, l, m))

-- fewer routers are shown
pub own-fewer : (count : ℕ) (net : Setup) (own some : ℕ → Bool) (n : ℕ) (w : Words) → ((r : ℕ) → some r ≡ true → own r ≡ true) → ShowsOwn count net own n w → ShowsOwn count net some n w
own-fewer count net own some n w among shows = record {
  limit = shows.limit;
  routers = λ r k. shows.routers r (k.0, among r k.1);
  last = record { event = shows.last.event; none = λ m r low l k. shows.last.none m r low l (k.0, among r k.1) };
  arrivals = λ p l ours. shows.arrivals p l (among _ ours);
}

-- ---- those of a network are all
module _ (net : Setup) (n : ℕ) (words : ℕ → Router) (all : Columns) (shows : ShowsAt net n words all) where
  pub number-is : (b : ℕ) → all.tile.first + b ≡ b
  number-is b = let first = shows.first in omega (arith, first)

  -- the block of a router is one of them
  pub in-block : (r : ℕ) → r < nodes net.relation.grid → r / 64 < length all.tile.blocks.items
  in-block r l = let most = shows.tile.plan_is.blocks in let long = shows.blocks_are in omega (arith, most, long, l)

  pub has-all : (r : ℕ) → r < nodes net.relation.grid → has_router all.tile r ≡ true
  has-all r l =
      let first = shows.first in
      let low = in-block r l in
      is-block all.tile (r / 64) (omega (arith, first)) (omega (arith, first, low))

  -- so it shows the whole network
  pub network-shown : ShowsNetwork (bits_of all.plan.pattern) net n (words_in words all.tile)
  network-shown =
      let own = shows.tile.shows in
      own-network net shows.good n (words_in words all.tile) (record {
        limit = own.limit;
        routers = λ r k. own.routers r (k.0, has-all r k.0);
        last = record { event = own.last.event; none = λ m r low l k. own.last.none m r low l (k.0, has-all r k.0) };
        arrivals = λ p low ours. own.arrivals p low (has-all (packet_at net p).destination (shows.good.packets p _ low).destination);
      })

-- ---- after a cycle
pub next-shown : (net : Setup) (n : ℕ) (words next : ℕ → Router) (old new : Columns) → ShowsAt net n words old → HasStepped net n words next old new → ShowsAt net (n + 1) next new
next-shown net n words next old new shows has = record {
  good = shows.good;
  made = ap (λ (o : Origin). net_in o) has.origin_stays ∙ shows.made;
  tile = subst (λ (p : Plan). ShowsTile net p (n + 1) next new.tile) (sym has.plan_stays) has.tile.shows;
  first = has.tile.first_is ∙ shows.first;
  blocks_are = has.tile.blocks_are ∙ shows.blocks_are ∙ ap (λ (p : Plan). length p.around.items) (sym has.plan_stays);
  found_are = has.found_are ∙ shows.found_are;
}
