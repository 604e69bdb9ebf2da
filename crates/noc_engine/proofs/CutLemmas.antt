-- A tile that has some of the blocks of another one.
use Rattle.std.proofs.Common.{◌≡◌, ℕ, ◌+◌, ◌*◌, ◌/◌, ◌<◌, ◌≤◌, true, List, Vec, Global, length, take, drop, Some, ap, sym, ◌∙◌, subst, arith}
use Rattle.std.specs.Prelude.{slice_get, slice_index, slice_index_or, vec_capacity}
use Rattle.noc_sets.specs.Cycle.{Router}
use Rattle.noc_theory.specs.Network.{Setup}
use Rattle.noc_theory_bits.specs.Network.{ShowsOwn}
use Rattle.noc_counts.specs.declared.counts.Counts.{Counts}
use Rattle.noc_cycles.specs.Told.{HaveRoom}
use Rattle.noc_cycles.specs.declared.block.Block.{Block}
use Rattle.noc_cycles.specs.declared.block.Work.{Work}
use Rattle.noc_cycles.specs.declared.notes.Note.{Note}
use Rattle.noc_theory_cycles.specs.Fits.{bits_of}
use Rattle.noc_engine.specs.Shows.{HasLists, ShowsBlock, ShowsTile, arrival_by, has_router, words_in}
use Rattle.noc_engine.specs.Tiles.{IsCut}
use Rattle.noc_engine.specs.declared.plan.Plan.{Plan}
use Rattle.noc_engine.specs.declared.tile.Tile.{Tile}
use Rattle.noc_engine.proofs.ListLemmas.{some-item, some-long, some-there}
use Rattle.noc_engine.proofs.WholeLemmas.{block-is, is-block, own-fewer}

-- the part of a tile that has so many of its blocks, from one on
pub record IsPart (first many : ℕ) (was is : Tile) : Type 0 where
  pub first_is : is.first ≡ was.first + first
  pub within : first + many ≤ length was.blocks.items
  pub blocks : is.blocks.items ≡ take many (drop first was.blocks.items)
  pub works : is.works.items ≡ take many (drop first was.works.items)
  pub counts : is.counts.items ≡ take many (drop first was.counts.items)
  pub notes : is.notes.items ≡ take many (drop first was.notes.items)
  pub left_are : length is.left.items ≡ length was.left.items
  pub arrivals : is.arrivals.items ≡ was.arrivals.items
  pub last : is.last ≡ was.last
  pub cycle : is.cycle ≡ was.cycle

module _ (first many : ℕ) (was is : Tile) (of : IsPart first many was is) where
  pub part-long : length is.blocks.items ≡ many
  part-long = ap length of.blocks ∙ some-long was.blocks.items first many of.within

  module _ (net : Setup) (plan : Plan) (n : ℕ) (words : ℕ → Router) (shows : ShowsTile net plan n words was) where
    works-within : first + many ≤ length was.works.items
    works-within = let long = shows.lists.works_are in let within = of.within in omega (arith, long, within)

    counts-within : first + many ≤ length was.counts.items
    counts-within = let long = shows.lists.counts_are in let within = of.within in omega (arith, long, within)

    notes-within : first + many ≤ length was.notes.items
    notes-within = let long = shows.lists.room.many in let within = of.within in omega (arith, long, within)

    room : HaveRoom (length is.blocks.items) is.notes.items
    room = record {
      many = ap length of.notes ∙ some-long was.notes.items first many notes-within ∙ sym part-long;
      each = λ b d l.
          let low : b < many = omega (arith, l, part-long) in
          subst (λ (v : Vec Note Global). 64 * 64 ≤ vec_capacity v) (sym (ap (λ (xs : List (Vec Note Global)). slice_index_or xs b d) of.notes ∙ some-item was.notes.items first many b d low))
          (shows.lists.room.each (first + b) d (let within = of.within in omega (arith, low, within)));
    }

    lists : HasLists net plan is
    lists = record {
      within = let most = shows.lists.within in let within = of.within in let from = of.first_is in omega (arith, most, within, from, part-long);
      works_are = ap length of.works ∙ some-long was.works.items first many works-within ∙ sym part-long;
      counts_are = ap length of.counts ∙ some-long was.counts.items first many counts-within ∙ sym part-long;
      room = room;
      left_are = of.left_are ∙ shows.lists.left_are;
      arrivals_are = ap length of.arrivals ∙ shows.lists.arrivals_are;
    }

    block-there : (b : ℕ) (block : Block) (work : Work) (counts : Counts) → slice_get is.blocks.items b ≡ Some block → slice_get is.works.items b ≡ Some work → slice_get is.counts.items b ≡ Some counts
        → ShowsBlock net plan n (is.first + b) words block work.came counts
    block-there b block work counts here doing at =
        let same : was.first + (first + b) ≡ is.first + b = let from = of.first_is in omega (arith, from) in
        subst (λ k. ShowsBlock net plan n k words block work.came counts) same
        (shows.blocks (first + b) block work counts
        (some-there was.blocks.items first many b block of.within (ap (λ (xs : List Block). slice_get xs b) (sym of.blocks) ∙ here))
        (some-there was.works.items first many b work works-within (ap (λ (xs : List Work). slice_get xs b) (sym of.works) ∙ doing))
        (some-there was.counts.items first many b counts counts-within (ap (λ (xs : List Counts). slice_get xs b) (sym of.counts) ∙ at)))

    among : (r : ℕ) → has_router is r ≡ true → has_router was r ≡ true
    among r e =
        let inside = block-is is (r / 64) e in
        let low = inside.0 in
        let high = inside.1 in
        let from = of.first_is in
        let within = of.within in
        is-block was (r / 64) (omega (arith, low, from)) (omega (arith, high, from, within, part-long))

    shown : ShowsOwn (bits_of plan.pattern) net (has_router is) n (words_in words is)
    shown =
        subst (λ k. ShowsOwn (bits_of plan.pattern) net (has_router is) n (record { routers = words; last = k; arrivals = λ p. arrival_by (slice_index is.arrivals.items p) })) (sym of.last)
        (subst (λ (xs : List ℕ). ShowsOwn (bits_of plan.pattern) net (has_router is) n (record { routers = words; last = was.last; arrivals = λ p. arrival_by (slice_index xs p) })) (sym of.arrivals)
        (own-fewer (bits_of plan.pattern) net (has_router was) (has_router is) n (words_in words was) among shows.shows))

    pub part-shows : ShowsTile net plan n words is
    part-shows = record {
      plan_is = shows.plan_is;
      cycle = of.cycle ∙ shows.cycle;
      lists = lists;
      blocks = block-there;
      shows = shown;
    }

-- ---- both parts of a tile that was cut
pub are-cut : (at many more : ℕ) (was here there : Tile) → at ≡ was.first + many → many + more ≡ length was.blocks.items → IsPart 0 many was here → IsPart many more was there → IsCut at was here there
are-cut at many more was here there is long front back =
    let front_long = part-long 0 many was here front in
    let back_long = part-long many more was there back in
    let from = front.first_is in
    let to = back.first_is in
    record {
      first_is = omega (arith, from);
      here_are = omega (arith, from, is, front_long);
      there_is = omega (arith, to, is);
      there_are = omega (arith, to, long, back_long);
      shows = λ net plan n words shows. (part-shows 0 many was here front net plan n words shows, part-shows many more was there back net plan n words shows);
    }
