use Rattle.std.proofs.Common.{refl}
use Rattle.noc_engine.proofs.tile.Tile.append.Goals as goal

pub returns : goal.returns
returns c = record {
  blocks = c.in_ok-append.ensures.items;
  works = c.in_ok-append-2.ensures.items;
  counts = c.in_ok-append-3.ensures.items;
  notes = c.in_ok-append-4.ensures.items;
  rest = refl;
}
