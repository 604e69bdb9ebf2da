use Rattle.noc_tiles.specs.Phases.{HaveFinished}
use Rattle.noc_tiles.proofs.worker.finish_some.Given as goal

-- the routers before this one have finished
abbrev pub invariant-loop-i : goal.invariant-loop-i
invariant-loop-i l = HaveFinished l.relation l.cycle l.from l.i l.initial.tile l.tile
