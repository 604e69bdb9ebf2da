-- Two tiles side by side that are joined.
use Rattle.std.proofs.Common.{◌≡◌, ℕ, ◌+◌, ◌-◌, ◌*◌, ◌/◌, ◌<◌, ◌≤◌, Bool, true, false, List, Vec, Global, ◌++◌, length, length-append, Some, refl, ap, sym, ◌∙◌, subst, arith, inl, inr}
use Rattle.std.specs.Prelude.{◌⊎◌, max, slice_get, slice_index, slice_index_or, vec_capacity, if◌then◌else◌}
use Rattle.std.proofs.lemmas.Bool.{cases_lt}
use Rattle.std.proofs.Math.ListN.{get_or-map, length-map}
use Rattle.std.proofs.lemmas.List.{get_or-append_right, get_or_append_left}
use Rattle.std.proofs.lemmas.Option.{slice_get_within}
use Rattle.noc_topo.specs.Lists.{one_if}
use Rattle.noc_topo.specs.Shape.{nodes}
use Rattle.noc_packet.specs.Set.{has_bit}
use Rattle.noc_sets.specs.Cycle.{Router}
use Rattle.noc_theory.specs.Lockstep.{has_event_at}
use Rattle.noc_theory.specs.Network.{Setup, arrival_in, packet_at, state_at}
use Rattle.noc_theory.specs.Progress.{events}
use Rattle.noc_theory_bits.specs.Network.{IsOwn, ShowsLastOf, ShowsRouter, all_starts}
use Rattle.noc_columns.specs.Picks.{channels_of}
use Rattle.noc_columns.specs.Routing.{header_in, header_of}
use Rattle.noc_columns.specs.declared.channels.Links.{Links}
use Rattle.noc_columns.specs.declared.header.Header.{Header}
use Rattle.noc_counts.specs.Counts.{HasHad}
use Rattle.noc_counts.specs.declared.counts.Counts.{Counts}
use Rattle.noc_cycles.specs.Held.{held_at, links_at}
use Rattle.noc_cycles.specs.Told.{HaveRoom}
use Rattle.noc_cycles.specs.declared.block.Block.{Block}
use Rattle.noc_cycles.specs.declared.block.Work.{Work}
use Rattle.noc_cycles.specs.declared.notes.Note.{Note}
use Rattle.noc_theory_cycles.specs.Fits.{bits_of}
use Rattle.noc_theory_cycles.specs.Nodes.{ShowsNode}
use Rattle.noc_engine.specs.Shows.{HasLists, ShowsBlock, ShowsTile, arrival_by, has_block, has_router}
use Rattle.noc_engine.specs.Tiles.{IsJoined}
use Rattle.noc_engine.specs.declared.plan.Plan.{Plan}
use Rattle.noc_engine.specs.declared.tile.Tile.{Tile}
use Rattle.noc_engine.proofs.ListLemmas.{back-there, front-there}
use Rattle.noc_engine.proofs.WholeLemmas.{block-is, is-block, is-router}

-- a block is shown by any words that are those of its routers
pub block-words : (net : Setup) (plan : Plan) (n b : ℕ) (words same : ℕ → Router) (block : Block) (came : Links (List ℕ)) (counts : Counts) → ((r : ℕ) → r < 64 → words (64 * b + r) ≡ same (64 * b + r))
    → ShowsBlock net plan n b words block came counts → ShowsBlock net plan n b same block came counts
block-words net plan n b words same block came counts are shows = record {
  routers = λ r l. subst (λ (w : Router). ShowsNode (bits_of plan.pattern) net plan.pattern n (64 * b + r) (links_at plan.pattern.table.ports came r) (held_at plan.pattern.table.ports block r) w) (are r l) (shows.routers r l);
  counted = λ r i l u. subst (λ (w : Router). HasHad (channels_of plan.pattern.table.ports) counts r i (one_if (has_bit w.column.waiting i)) (w.counts i)) (are r l) (shows.counted r i l u);
  few = shows.few;
  before = shows.before;
  known = shows.known;
  punctual = shows.punctual;
}

-- one list of notes behind another
more-room : (m n : ℕ) (xs ys : List (Vec Note Global)) → HaveRoom m xs → HaveRoom n ys → HaveRoom (m + n) (xs ++ ys)
more-room m n xs ys front back = record {
  many = length-append xs ys ∙ (let one = front.many in let other = back.many in omega (arith, one, other));
  each = λ b d l. at b d l (cases_lt b m);
}
  where
    at : (b : ℕ) (d : Vec Note Global) → b < m + n → (b < m) ⊎ (m ≤ b) → 64 * 64 ≤ vec_capacity (slice_index_or (xs ++ ys) b d)
    at b d l (inl low) = subst (λ (v : Vec Note Global). 64 * 64 ≤ vec_capacity v) (sym (get_or_append_left xs ys d b (let one = front.many in omega (arith, one, low)))) (front.each b d low)
    at b d l (inr past) = subst (λ (v : Vec Note Global). 64 * 64 ≤ vec_capacity v) (sym (get_or-append_right xs ys m b d front.many past)) (back.each (b - m) d (omega (arith, l, past)))

-- a tile has what two tiles side by side have: of each packet the arrival in that where it ends
pub record AreTogether (plan : Plan) (here there all : Tile) : Type 0 where
  pub beside : there.first ≡ here.first + length here.blocks.items
  pub first : all.first ≡ here.first
  pub blocks : all.blocks.items ≡ here.blocks.items ++ there.blocks.items
  pub works : all.works.items ≡ here.works.items ++ there.works.items
  pub counts : all.counts.items ≡ here.counts.items ++ there.counts.items
  pub notes : all.notes.items ≡ here.notes.items ++ there.notes.items
  pub left_are : length all.left.items ≡ length here.left.items
  pub arrivals_are : length all.arrivals.items ≡ length here.arrivals.items
  pub arrivals : (p : ℕ) → p < length plan.headers.items
      → slice_index all.arrivals.items p
      ≡ (if has_block there ((header_in plan.headers.items p).destination / 64) then slice_index there.arrivals.items p else slice_index here.arrivals.items p)
  pub last : all.last ≡ max here.last there.last
  pub cycle : all.cycle ≡ here.cycle

module _ (plan : Plan) (here there all : Tile) (of : AreTogether plan here there all) where
  all-long : length all.blocks.items ≡ length here.blocks.items + length there.blocks.items
  all-long = ap length of.blocks ∙ length-append here.blocks.items there.blocks.items

  -- its blocks are theirs
  in-either : (b : ℕ) → has_block all b ≡ true → (has_block here b ≡ true) ⊎ (has_block there b ≡ true)
  in-either b e = at (cases_lt b there.first)
    where
      inside : (all.first ≤ b) × (b < all.first + length all.blocks.items)
      inside = block-is all b e

      at : (b < there.first) ⊎ (there.first ≤ b) → (has_block here b ≡ true) ⊎ (has_block there b ≡ true)
      at (inl low) = inl (let beside = of.beside in let first = of.first in let from = inside.0 in is-block here b (omega (arith, first, from)) (omega (arith, low, beside)))
      at (inr past) = inr (let beside = of.beside in let first = of.first in let to = inside.1 in is-block there b past (omega (arith, beside, first, to, all-long)))

  not-here : (b : ℕ) → has_block there b ≡ true → has_block here b ≡ false
  not-here b e = at (has_block here b) refl
    where
      at : (x : Bool) → has_block here b ≡ x → x ≡ false
      at true k = let high = (block-is here b k).1 in let low = (block-is there b e).0 in let beside = of.beside in absurd (omega (arith, high, low, beside))
      at false k = refl

  not-there : (b : ℕ) → has_block here b ≡ true → has_block there b ≡ false
  not-there b e = at (has_block there b) refl
    where
      at : (x : Bool) → has_block there b ≡ x → x ≡ false
      at true k = let high = (block-is here b e).1 in let low = (block-is there b k).0 in let beside = of.beside in absurd (omega (arith, high, low, beside))
      at false k = refl

  module _ (net : Setup) (n : ℕ) (front back : ℕ → Router) (one : ShowsTile net plan n front here) (other : ShowsTile net plan n back there) where
    abbrev words : ℕ → Router
    words s = if has_router here s then front s else back s

    words-here : (s : ℕ) → has_router here s ≡ true → words s ≡ front s
    words-here s e = ap (λ (b : Bool). if b then front s else back s) e

    words-there : (s : ℕ) → has_router there s ≡ true → words s ≡ back s
    words-there s e = ap (λ (b : Bool). if b then front s else back s) (not-here (s / 64) e)

    lists : HasLists net plan all
    lists = record {
      within = let most = other.lists.within in let beside = of.beside in let first = of.first in omega (arith, most, beside, first, all-long);
      works_are = ap length of.works ∙ length-append here.works.items there.works.items ∙ (let a = one.lists.works_are in let b = other.lists.works_are in omega (arith, a, b, all-long));
      counts_are = ap length of.counts ∙ length-append here.counts.items there.counts.items ∙ (let a = one.lists.counts_are in let b = other.lists.counts_are in omega (arith, a, b, all-long));
      room = subst (λ m. HaveRoom m all.notes.items) (sym all-long) (subst (λ (xs : List (Vec Note Global)). HaveRoom (length here.blocks.items + length there.blocks.items) xs) (sym of.notes)
          (more-room (length here.blocks.items) (length there.blocks.items) here.notes.items there.notes.items one.lists.room other.lists.room));
      left_are = of.left_are ∙ one.lists.left_are;
      arrivals_are = of.arrivals_are ∙ one.lists.arrivals_are;
    }

    -- ---- block by block
    module _ (b : ℕ) (block : Block) (work : Work) (counts : Counts) (at : slice_get (here.blocks.items ++ there.blocks.items) b ≡ Some block) (doing : slice_get (here.works.items ++ there.works.items) b ≡ Some work)
        (on : slice_get (here.counts.items ++ there.counts.items) b ≡ Some counts) where
      block-here : b < length here.blocks.items → ShowsBlock net plan n (all.first + b) words block work.came counts
      block-here low =
          let same : here.first + b ≡ all.first + b = let first = of.first in omega (arith, first) in
          subst (λ k. ShowsBlock net plan n k words block work.came counts) same
          (block-words net plan n (here.first + b) front words block work.came counts
          (λ r l. sym (words-here (64 * (here.first + b) + r) (is-router here b r low l)))
          (one.blocks b block work counts (front-there here.blocks.items there.blocks.items b block low at)
          (front-there here.works.items there.works.items b work (let long = one.lists.works_are in omega (arith, long, low)) doing)
          (front-there here.counts.items there.counts.items b counts (let long = one.lists.counts_are in omega (arith, long, low)) on)))

      block-back : length here.blocks.items ≤ b → ShowsBlock net plan n (all.first + b) words block work.came counts
      block-back past =
          let k = b - length here.blocks.items in
          let same : there.first + k ≡ all.first + b = let first = of.first in let beside = of.beside in omega (arith, first, beside, past) in
          let stands = back-there here.blocks.items there.blocks.items b block past at in
          let inside : k < length there.blocks.items = slice_get_within there.blocks.items k block stands in
          let works : length here.works.items ≡ length here.blocks.items = one.lists.works_are in
          let counted : length here.counts.items ≡ length here.blocks.items = one.lists.counts_are in
          subst (λ m. ShowsBlock net plan n m words block work.came counts) same
          (block-words net plan n (there.first + k) back words block work.came counts
          (λ r l. sym (words-there (64 * (there.first + k) + r) (is-router there k r inside l)))
          (other.blocks k block work counts stands
          (ap (λ m. slice_get there.works.items (b - m)) (sym works) ∙ back-there here.works.items there.works.items b work (omega (arith, works, past)) doing)
          (ap (λ m. slice_get there.counts.items (b - m)) (sym counted) ∙ back-there here.counts.items there.counts.items b counts (omega (arith, counted, past)) on)))

      block-either : (b < length here.blocks.items) ⊎ (length here.blocks.items ≤ b) → ShowsBlock net plan n (all.first + b) words block work.came counts
      block-either (inl low) = block-here low
      block-either (inr past) = block-back past

    block-shown : (b : ℕ) (block : Block) (work : Work) (counts : Counts) → slice_get all.blocks.items b ≡ Some block → slice_get all.works.items b ≡ Some work → slice_get all.counts.items b ≡ Some counts
        → ShowsBlock net plan n (all.first + b) words block work.came counts
    block-shown b block work counts at doing on = block-either b block work counts (ap (λ (xs : List Block). slice_get xs b) (sym of.blocks) ∙ at) (ap (λ (xs : List Work). slice_get xs b) (sym of.works) ∙ doing)
        (ap (λ (xs : List Counts). slice_get xs b) (sym of.counts) ∙ on) (cases_lt b (length here.blocks.items))

    -- ---- the routers, the last event and the arrivals
    router-shown : (r : ℕ) → IsOwn net (has_router all) r → ShowsRouter (bits_of plan.pattern) net n r (all_starts net) (words r)
    router-shown r k = at (in-either (r / 64) k.1)
      where
        at : (has_router here r ≡ true) ⊎ (has_router there r ≡ true) → ShowsRouter (bits_of plan.pattern) net n r (all_starts net) (words r)
        at (inl e) = subst (ShowsRouter (bits_of plan.pattern) net n r (all_starts net)) (sym (words-here r e)) (one.shows.routers r (k.0, e))
        at (inr e) = subst (ShowsRouter (bits_of plan.pattern) net n r (all_starts net)) (sym (words-there r e)) (other.shows.routers r (k.0, e))

    last-shown : ShowsLastOf net (has_router all) n all.last
    last-shown = record { event = λ m e. event m e (cases_lt here.last there.last); none = λ m r low l k. quiet m r low l k.0 (in-either (r / 64) k.1) }
      where
        latest : all.last ≡ max here.last there.last
        latest = of.last

        event : (m : ℕ) → all.last ≡ m + 1 → (here.last < there.last) ⊎ (there.last ≤ here.last) → (m < n) × (0 < events net m (state_at net m))
        event m e (inl later) = other.shows.last.event m (omega (arith, latest, e, later))
        event m e (inr before) = one.shows.last.event m (omega (arith, latest, e, before))

        quiet : (m r : ℕ) → all.last ≤ m → m < n → r < nodes net.relation.grid → (has_router here r ≡ true) ⊎ (has_router there r ≡ true) → has_event_at net m r ≡ false
        quiet m r low l known (inl e) = one.shows.last.none m r (omega (arith, latest, low)) l (known, e)
        quiet m r low l known (inr e) = other.shows.last.none m r (omega (arith, latest, low)) l (known, e)

    goes-to : (p : ℕ) → (header_in plan.headers.items p).destination ≡ (packet_at net p).destination
    goes-to p =
        ap (λ (hs : List Header). (header_in hs p).destination) one.plan_is.headers
        ∙ ap (λ (h : Header). h.destination) (get_or-map header_of net.packets p (record { source = 0; destination = 0; class = 0; length = 0; due = 0 }))

    arrival-shown : (p : ℕ) → p < length net.packets → has_router all (packet_at net p).destination ≡ true → arrival_by (slice_index all.arrivals.items p) ≡ arrival_in net (state_at net n) p
    arrival-shown p l ours = at (in-either ((packet_at net p).destination / 64) ours)
      where
        known : p < length plan.headers.items
        known = let is : length plan.headers.items ≡ length net.packets = ap length one.plan_is.headers ∙ length-map net.packets header_of in omega (arith, is, l)

        taken : slice_index all.arrivals.items p ≡ (if has_block there ((packet_at net p).destination / 64) then slice_index there.arrivals.items p else slice_index here.arrivals.items p)
        taken = of.arrivals p known ∙ ap (λ x. if has_block there (x / 64) then slice_index there.arrivals.items p else slice_index here.arrivals.items p) (goes-to p)

        at : (has_block here ((packet_at net p).destination / 64) ≡ true) ⊎ (has_block there ((packet_at net p).destination / 64) ≡ true) → arrival_by (slice_index all.arrivals.items p) ≡ arrival_in net (state_at net n) p
        at (inr e) = ap arrival_by (taken ∙ ap (λ (b : Bool). if b then slice_index there.arrivals.items p else slice_index here.arrivals.items p) e) ∙ other.shows.arrivals p l e
        at (inl e) = ap arrival_by (taken ∙ ap (λ (b : Bool). if b then slice_index there.arrivals.items p else slice_index here.arrivals.items p) (not-there ((packet_at net p).destination / 64) e)) ∙ one.shows.arrivals p l e

    pub all-shows : ShowsTile net plan n words all
    all-shows = record {
      plan_is = one.plan_is;
      cycle = of.cycle ∙ one.cycle;
      lists = lists;
      blocks = block-shown;
      shows = record {
        limit = one.shows.limit;
        routers = router-shown;
        last = last-shown;
        arrivals = arrival-shown;
      };
    }

  pub are-joined : IsJoined plan here there all
  are-joined = record {
    first_is = of.first;
    blocks_are = all-long;
    shows = λ net n one other. (words net n one.0 other.0 one.1 other.1, all-shows net n one.0 other.0 one.1 other.1);
  }
