use Rattle.std.proofs.Common.{◌≤◌, vec_capacity}
use Rattle.noc_route.specs.Ranks.{rank_count}
use Rattle.noc_rank.specs.Formulated.{AreByFormula}
use Rattle.noc_rank.proofs.generated.Formula.ranks.Given as goal

abbrev pub invariant-loop-index : goal.invariant-loop-index
invariant-loop-index l = record {
  room : rank_count l.self.shape.now l.self.vcs ≤ vec_capacity l.ranks;
  made : AreByFormula l.self l.index l.ranks.items;
}
