use Rattle.std.proofs.Common.{refl, rules}
use Rattle.noc_engine.proofs.open.all_blocks.Goals as goal

pub returns : goal.returns
returns c = record {
  first = refl;
  blocks = c.in-Ok.ensures;
  works = c.in-Ok-empty_works.ensures;
  counts = c.in-Ok-no_counts.ensures;
  notes = c.in-Ok-room_for_notes.ensures;
  left = c.in-Ok-nothing_left.ensures;
  arrivals = c.in-Ok-vec.ensures.items_if_clones_equal (λ y e. search rules);
  last = refl;
  cycle = refl;
}
