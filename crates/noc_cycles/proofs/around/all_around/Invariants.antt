use Rattle.noc_cycles.specs.Around.{AreAround}
use Rattle.noc_cycles.proofs.around.all_around.Given as goal

abbrev pub invariant-loop-block : goal.invariant-loop-block
invariant-loop-block l = AreAround l.shape l.vcs l.block l.all.items
