use Rattle.std.proofs.Common.{map}
use Rattle.noc_tiles.specs.Ends.{outlet}
use Rattle.noc_tiles.specs.TileStep.{arrival_ports}
use Rattle.noc_tiles.proofs.InnerLemmas.{AreInnerTo}
use Rattle.noc_tiles.proofs.tile.inner_of.Given as goal

-- none of the wires before this one begins at an inner router
abbrev pub invariant-loop-end : goal.invariant-loop-end
invariant-loop-end l = AreInnerTo l.relation.grid l.first l.count (arrival_ports (map outlet l.outs)) l.end-index l.inner
