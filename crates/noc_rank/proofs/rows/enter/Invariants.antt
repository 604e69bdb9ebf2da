use Rattle.noc_rank.specs.Entered.{AreEntered}
use Rattle.noc_rank.proofs.rows.enter.Given as goal

abbrev pub invariant-loop-number : goal.invariant-loop-number
invariant-loop-number l = AreEntered l.shape l.vcs l.rows l.number l.ranks l.named
