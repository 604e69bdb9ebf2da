use Rattle.noc_rank.specs.Entered.{IsWhole}
use Rattle.noc_rank.proofs.rows.missing.Given as goal

abbrev pub invariant-loop-index : goal.invariant-loop-index
invariant-loop-index l = IsWhole l.shape l.vcs l.named l.index
