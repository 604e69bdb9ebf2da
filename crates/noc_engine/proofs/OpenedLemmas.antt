-- A network of blocks before its first cycle.
use Rattle.std.proofs.Common.{◌≡◌, ℕ, ◌+◌, ◌-◌, ◌*◌, ◌/◌, ◌%◌, ◌^◌, ◌<◌, ◌≤◌, List, Some, None, length, map, ap, ap₂, sym, subst, ◌∙◌, arith}
use Rattle.std.specs.Int.{div_ceil}
use Rattle.std.specs.Prelude.{min, slice_get, slice_index, slice_index_or}
use Rattle.std.proofs.lemmas.List.{get_or-replicate, length-replicate}
use Rattle.std.proofs.lemmas.Option.{get_or_from_slice_get, slice_get_within}
use Rattle.noc_topo.specs.Lists.{one_if}
use Rattle.noc_topo.specs.Shape.{Grid, nodes}
use Rattle.noc_topo.proofs.LinkLemmas.{nodes-some}
use Rattle.noc_packet.specs.Set.{has_bit}
use Rattle.noc_packet.specs.declared.packet.Packet.{Packet}
use Rattle.noc_packet.proofs.SetLemmas.{has_bit-zero}
use Rattle.noc_route.specs.Routes.{Routes}
use Rattle.noc_sets.specs.Counts.{ShowsLastEvent, no_counts}
use Rattle.noc_sets.specs.Cycle.{Router}
use Rattle.noc_theory.specs.Good.{IsGoodSetup}
use Rattle.noc_theory.specs.Network.{Setup}
use Rattle.noc_theory.specs.Progress.{last_event_before}
use Rattle.noc_theory_bits.specs.Network.{ShowsNetwork}
use Rattle.noc_theory_bits.specs.Starts.{starts_list}
use Rattle.noc_theory_bits.proofs.bits.NetworkLemmas.{network-own}
use Rattle.noc_columns.specs.Picks.{channels_of}
use Rattle.noc_columns.specs.Routing.{header_of}
use Rattle.noc_columns.specs.Sources.{starts_by}
use Rattle.noc_columns.specs.declared.channels.Inputs.{Inputs}
use Rattle.noc_columns.specs.declared.channels.Links.{Links}
use Rattle.noc_columns.specs.declared.due.TheConstants.{NEVER}
use Rattle.noc_columns.specs.declared.ports.RouterPorts.{RouterPorts}
use Rattle.noc_counts.specs.Counts.{HasHad, IsClear}
use Rattle.noc_counts.specs.declared.counts.Counts.{Counts}
use Rattle.noc_cycles.specs.Around.{AreAround, IsAround}
use Rattle.noc_cycles.specs.Held.{held_at, links_at}
use Rattle.noc_cycles.specs.Opened.{IsOpened, no_links, router_of}
use Rattle.noc_cycles.specs.Patterns.{IsPatternOf}
use Rattle.noc_cycles.specs.Told.{HaveRoom}
use Rattle.noc_cycles.specs.declared.block.Block.{Block}
use Rattle.noc_cycles.specs.declared.block.Work.{Work}
use Rattle.noc_cycles.specs.declared.first.First.{First}
use Rattle.noc_cycles.specs.declared.pattern.Pattern.{Pattern}
use Rattle.noc_cycles.proofs.ConcludingLemmas.{all-within}
use Rattle.noc_theory_cycles.specs.Firsts.{AreFirsts}
use Rattle.noc_theory_cycles.specs.Fits.{bits_of}
use Rattle.noc_theory_cycles.specs.Nodes.{ShowsNode}
use Rattle.noc_theory_cycles.specs.Steps.{held_in, opened_words}
use Rattle.noc_theory_cycles.proofs.OpeningLemmas.{all-open, node-opens}
use Rattle.noc_engine.specs.Opened.{IsOpenedTile}
use Rattle.noc_engine.specs.Origins.{net_in}
use Rattle.noc_engine.specs.Shows.{IsPlanOf, ShowsAt, ShowsBlock, ShowsTile, arrival_by, has_router, words_in}
use Rattle.noc_engine.specs.declared.columns.Columns.{Columns}
use Rattle.noc_engine.specs.declared.plan.Plan.{Plan}
use Rattle.noc_engine.specs.declared.tile.Tile.{Tile}
use Rattle.noc_engine.proofs.ListLemmas.{block-of, place-of, there}

-- ---- how many blocks there are
up-to : (size : ℕ) → size / 64 + min 1 (size % 64) ≡ (size + 63) / 64
up-to size = omega arith

pub blocks-are : (net : Setup) (plan : Plan) (size count : ℕ) → IsPlanOf net plan → size ≡ nodes net.relation.grid → 2 ≤ size → count ≡ div_ceil size 64 → count ≡ length plan.around.items
blocks-are net plan size count of size_is some is =
    let many = length plan.around.items in
    let all : count ≡ (size + 63) / 64 = is ∙ up-to size in
    let most : size ≤ 64 * many = subst (λ n. n ≤ 64 * many) (sym size_is) of.blocks in
    let last : 64 * (many - 1) < size = subst (λ n. 64 * (many - 1) < n) (sym size_is) (of.some (many - 1) (omega (arith, most, some))) in
    omega (arith, all, most, last, some)

-- ---- the plan
module _ (net : Setup) (plan : Plan) (shape : Grid) (vcs count size : ℕ) (same_grid : shape ≡ net.relation.grid) (same_vcs : vcs ≡ net.relation.vcs)
    (size_is : size ≡ nodes shape) (some : 2 ≤ size) (few : size ≤ 256) (count_is : count ≡ div_ceil size 64)
    (pattern : IsPatternOf shape vcs net.depth plan.pattern) (around : AreAround shape vcs count plan.around.items) (starts : starts_by plan.starts.items ≡ starts_list net.packets (nodes net.relation.grid))
    (short : length plan.starts.items < 2 ^ 32) (headers : plan.headers.items ≡ map header_of net.packets) where
  counted : count ≡ (size + 63) / 64
  counted = count_is ∙ up-to size

  nodes-are : size ≡ nodes net.relation.grid
  nodes-are = size_is ∙ ap nodes same_grid

  pattern-is : IsPatternOf net.relation.grid net.relation.vcs net.depth plan.pattern
  pattern-is = subst (λ (g : Grid). IsPatternOf g net.relation.vcs net.depth plan.pattern) same_grid (subst (λ (v : ℕ). IsPatternOf shape v net.depth plan.pattern) same_vcs pattern)

  around-is : AreAround net.relation.grid net.relation.vcs count plan.around.items
  around-is = subst (λ (g : Grid). AreAround g net.relation.vcs count plan.around.items) same_grid (subst (λ (v : ℕ). AreAround shape v count plan.around.items) same_vcs around)

  pub plan-is : IsPlanOf net plan
  plan-is = record {
    pattern_is = pattern-is;
    blocks = subst (λ m. m ≤ 64 * length plan.around.items) nodes-are (let m = around.many in omega (arith, counted, m));
    some = λ b l. subst (λ m. 64 * b < m) nodes-are (let m = around.many in omega (arith, counted, m, l));
    around = λ b one here.
        subst (IsAround net.relation.grid net.relation.vcs b) (get_or_from_slice_get plan.around.items b one one here)
        (around-is.each b one (let inside = slice_get_within plan.around.items b one here in let m = around.many in omega (arith, inside, m)));
    starts = starts;
    few_starts = short;
    headers = headers;
  }

-- ---- all of it
pub record IsMade (net : Setup) (firsts : List First) (count : ℕ) (all : Columns) : Type 0 where
  pub good : IsGoodSetup net
  pub made : net_in all.origin ≡ net
  pub plan : IsPlanOf net all.plan
  pub count_is : count ≡ length all.plan.around.items
  pub firsts_are : AreFirsts net.packets (nodes net.relation.grid) firsts
  pub tile : IsOpenedTile all.plan.pattern firsts count (length net.packets) all.tile
  pub found : length all.found.items ≡ nodes net.relation.grid * 64

module _ (net : Setup) (firsts : List First) (count : ℕ) (all : Columns) (of : IsMade net firsts count all) where
  abbrev pattern : Pattern
  pattern = all.plan.pattern

  abbrev ports : RouterPorts
  ports = all.plan.pattern.table.ports

  enough : nodes net.relation.grid ≤ 64 * count
  enough = let most = of.plan.blocks in let is = of.count_is in omega (arith, most, is)

  a-block : Block
  a-block = (there all.tile.blocks.items 0 (let two = nodes-some net.relation.grid of.good.relation.table.grid in let long = of.tile.blocks.many in omega (arith, two, enough, long))).0

  abbrev block_at : ℕ → Block
  block_at b = slice_index_or all.tile.blocks.items b a-block

  abbrev words : ℕ → Router
  words s = router_of pattern (held_in ports block_at s)

  opens : ShowsNetwork (bits_of pattern) net 0 (opened_words pattern (held_in ports block_at))
  opens = all-open net of.good pattern of.plan.pattern_is firsts of.firsts_are count block_at enough (λ b l. of.tile.blocks.each b a-block l)

  module _ (b : ℕ) (block : Block) (work : Work) (counts : Counts) (here : slice_get all.tile.blocks.items b ≡ Some block) (doing : slice_get all.tile.works.items b ≡ Some work) (at : slice_get all.tile.counts.items b ≡ Some counts) where
    inside : b < count
    inside = let l = slice_get_within all.tile.blocks.items b block here in let long = of.tile.blocks.many in omega (arith, l, long)

    is-opened : IsOpened pattern firsts b block
    is-opened = subst (IsOpened pattern firsts b) (get_or_from_slice_get all.tile.blocks.items b block block here) (of.tile.blocks.each b block inside)

    clear : IsClear counts
    clear = subst IsClear (get_or_from_slice_get all.tile.counts.items b counts counts at) (of.tile.counts.each b counts inside)

    nothing-comes : (r : ℕ) → links_at ports work.came r ≡ no_links
    nothing-comes r = ap (λ (w : Work). links_at ports w.came r) (sym (get_or_from_slice_get all.tile.works.items b work work doing)) ∙ of.tile.works.each b work inside ports r

    words-are : (r : ℕ) → r < 64 → words (64 * b + r) ≡ router_of pattern (held_at ports block r)
    words-are r l =
        ap₂ (λ q k. router_of pattern (held_at ports (block_at q) k)) (block-of b r l) (place-of b r l)
        ∙ ap (λ (x : Block). router_of pattern (held_at ports x r)) (get_or_from_slice_get all.tile.blocks.items b block a-block here)

    routers : (r : ℕ) → r < 64 → ShowsNode (bits_of pattern) net pattern 0 (64 * b + r) (links_at ports work.came r) (held_at ports block r) (words (64 * b + r))
    routers r l =
        subst (λ (links : Links ℕ). ShowsNode (bits_of pattern) net pattern 0 (64 * b + r) links (held_at ports block r) (words (64 * b + r))) (sym (nothing-comes r))
        (subst (ShowsNode (bits_of pattern) net pattern 0 (64 * b + r) no_links (held_at ports block r)) (sym (words-are r l))
        (node-opens net of.good pattern of.plan.pattern_is firsts of.firsts_are b r block is-opened l))

    block-shown : ShowsBlock net all.plan 0 b words block work.came counts
    block-shown = record {
      routers = routers;
      counted = λ r i l m.
          subst (λ (w : Router). HasHad (channels_of ports) counts r i (one_if (has_bit w.column.waiting i)) (w.counts i)) (sym (words-are r l))
          (subst (λ x. HasHad (channels_of ports) counts r i (one_if x) no_counts) (sym (ap (λ (x : Inputs ℕ). has_bit x.waiting i) (is-opened.routers r l).inputs ∙ has_bit-zero i))
          (clear.each (channels_of ports) r i (λ c low. let below = all-within pattern c low in let few = pattern.frame.few in omega (arith, below, few)) m));
      few = let none = clear.cycles in omega (arith, none);
      before = 0;
      known = omega arith;
      punctual = record {
        due = is-opened.due;
        injected = λ r l some. absurd (some (is-opened.routers r l).injecting);
      };
    }

  not-yet : (p : ℕ) → p < length net.packets → arrival_by (slice_index all.tile.arrivals.items p) ≡ None
  not-yet p l = ap arrival_by (ap (λ xs. slice_index xs p) of.tile.arrivals ∙ get_or-replicate (length net.packets) p NEVER 0 (omega (arith, l)))

  number : (b : ℕ) → b ≡ all.tile.first + b
  number b = let first = of.tile.first in omega (arith, first)

  shows-tile : ShowsTile net all.plan 0 words all.tile
  shows-tile = record {
    plan_is = of.plan;
    cycle = of.tile.cycle;
    lists = record {
      within = let first = of.tile.first in let long = of.tile.blocks.many in let is = of.count_is in omega (arith, first, long, is);
      works_are = of.tile.works.many ∙ sym of.tile.blocks.many;
      counts_are = of.tile.counts.many ∙ sym of.tile.blocks.many;
      room = subst (λ m. HaveRoom m all.tile.notes.items) (sym of.tile.blocks.many) of.tile.notes;
      left_are = of.tile.left ∙ of.count_is;
      arrivals_are = ap length of.tile.arrivals ∙ length-replicate (length net.packets) NEVER;
    };
    blocks = λ b block work counts here doing at. subst (λ k. ShowsBlock net all.plan 0 k words block work.came counts) (number b) (block-shown b block work counts here doing at);
    shows = network-own net of.good (has_router all.tile) 0 (words_in words all.tile) (record {
      limit = opens.limit;
      routers = opens.routers;
      last = subst (λ k. ShowsLastEvent k (last_event_before net 0)) (sym of.tile.last) opens.last;
      arrivals = λ p l. not-yet p l ∙ opens.arrivals p l;
    });
  }

  shows-at : ShowsAt net 0 words all
  shows-at = record {
    good = of.good;
    made = of.made;
    tile = shows-tile;
    first = of.tile.first;
    blocks_are = of.tile.blocks.many ∙ of.count_is;
    found_are = of.found;
  }

pub opens-at : (net : Setup) (firsts : List First) (count : ℕ) (all : Columns) → IsMade net firsts count all → (x : ℕ → Router) × ShowsAt net 0 x all
opens-at net firsts count all of = (words net firsts count all of, shows-at net firsts count all of)

-- it is opened with these first packets
pub same-opened : (pattern : Pattern) (firsts others : List First) (count m n : ℕ) (tile : Tile) → firsts ≡ others → m ≡ n → IsOpenedTile pattern firsts count m tile → IsOpenedTile pattern others count n tile
same-opened pattern firsts others count m n tile same many opened = subst (λ k. IsOpenedTile pattern others count k tile) many (subst (λ f. IsOpenedTile pattern f count m tile) same opened)

-- what it is made from
pub same-setup : (r s : Routes) (d e : ℕ) (ps qs : List Packet) → r ≡ s → d ≡ e → ps ≡ qs → (let u : Setup = record { relation = r; depth = d; packets = ps } in u) ≡ record { relation = s; depth = e; packets = qs }
same-setup r s d e ps qs a b c =
    ap (λ (x : Routes). (let u : Setup = record { relation = x; depth = d; packets = ps } in u)) a ∙ ap (λ (x : ℕ). (let u : Setup = record { relation = s; depth = x; packets = ps } in u)) b
    ∙ ap (λ (x : List Packet). (let u : Setup = record { relation = s; depth = e; packets = x } in u)) c
