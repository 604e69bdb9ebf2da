use Rattle.noc_tiles.specs.Partition.{IsGathered}
use Rattle.noc_tiles.proofs.threads.gather.Given as goal

abbrev pub invariant-loop-tile : goal.invariant-loop-tile
invariant-loop-tile l = IsGathered l.all l.yielded
