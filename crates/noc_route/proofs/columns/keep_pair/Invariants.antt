use Rattle.noc_route.specs.Columns.{AreKeptTo}
use Rattle.noc_route.proofs.columns.keep_pair.Given as goal

abbrev pub invariant-loop-input : goal.invariant-loop-input
invariant-loop-input l = AreKeptTo l.sizes l.block l.fn.sets l.sets l.fn.starts l.starts l.pair l.first l.input l.end
