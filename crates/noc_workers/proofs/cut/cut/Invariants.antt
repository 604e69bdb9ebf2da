use Rattle.noc_workers.specs.Rounds.{start_by}
use Rattle.noc_workers.proofs.CutLemmas.{IsCutting}
use Rattle.noc_workers.proofs.cut.cut.Given as goal

abbrev pub invariant-loop-left : goal.invariant-loop-left
invariant-loop-left l = IsCutting (start_by l.run) l.fn.tile.first l.left l.rest l.workers.items

abbrev pub decreases-loop-left : goal.decreases-loop-left
decreases-loop-left l = l.left
