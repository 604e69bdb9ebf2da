use Rattle.std.proofs.Common.{◌≡◌, ℕ, ◌-◌, List, drop, length, take, ap, arith, refl, rules, sym, ◌∙◌}
use Rattle.std.proofs.lemmas.List.{take_rest}
use Rattle.noc_engine.proofs.CutLemmas.{are-cut}
use Rattle.noc_engine.proofs.tile.Tile.cut.Goals as goal

-- the rest of a list that is as long as another one
rest : {A : Type 0} (xs : List A) (long kept : ℕ) → length xs ≡ long → drop kept xs ≡ take (long - kept) (drop kept xs)
rest xs long kept is = sym (ap (λ m. take (m - kept) (drop kept xs)) (sym is) ∙ take_rest xs kept)

pub overflow_sub-kept : goal.overflow_sub-kept
overflow_sub-kept c = omega (arith, c.requires.at)

pub split_off-requires : goal.split_off-requires
split_off-requires c = omega (arith, c.requires.at, c.args.self.now.blocks.ok.0)

pub split_off-requires-2 : goal.split_off-requires-2
split_off-requires-2 c = let lists = c.requires.shows.3.1.lists in omega (arith, c.requires.at, lists.works_are, c.args.self.now.works.ok.0)

pub split_off-requires-3 : goal.split_off-requires-3
split_off-requires-3 c = let lists = c.requires.shows.3.1.lists in omega (arith, c.requires.at, lists.counts_are, c.args.self.now.counts.ok.0)

pub split_off-requires-4 : goal.split_off-requires-4
split_off-requires-4 c = let lists = c.requires.shows.3.1.lists in omega (arith, c.requires.at, lists.room.many, c.args.self.now.notes.ok.0)

pub returns : goal.returns
returns c =
    let was = c.args.self.now in
    let long = length was.blocks.items in
    let kept = c.args.at - was.first in
    let lists = c.requires.shows.3.1.lists in
    are-cut c.args.at kept (long - kept) was _ _ (omega (arith, c.requires.at)) (omega (arith, c.requires.at))
    (record {
      first_is = omega arith;
      within = omega (arith, c.requires.at);
      blocks = c.in-Ok-split_off.ensures.items;
      works = c.in-Ok-split_off-2.ensures.items;
      counts = c.in-Ok-split_off-3.ensures.items;
      notes = c.in-Ok-split_off-4.ensures.items;
      left_are = refl;
      arrivals = refl;
      last = refl;
      cycle = refl;
    })
    (record {
      first_is = omega (arith, c.requires.at);
      within = omega (arith, c.requires.at);
      blocks = c.in-Ok-split_off.ensures.tail ∙ rest was.blocks.items long kept refl;
      works = c.in-Ok-split_off-2.ensures.tail ∙ rest was.works.items long kept lists.works_are;
      counts = c.in-Ok-split_off-3.ensures.tail ∙ rest was.counts.items long kept lists.counts_are;
      notes = c.in-Ok-split_off-4.ensures.tail ∙ rest was.notes.items long kept lists.room.many;
      left_are = omega (arith, c.in-Ok.ensures, c.len.ensures, was.left.ok);
      arrivals = c.in-Ok-to_vec.ensures.items_if_clones_equal (λ x y e. search rules) ∙ c.deref.ensures.value;
      last = refl;
      cycle = refl;
    })
