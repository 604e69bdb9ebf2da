use Rattle.noc_rank.proofs.FormulaLemmas.{IsRanking-listed, IsGenerated-listed}
use Rattle.noc_rank.proofs.ranks.Ranks.generated.Goals as goal

pub invariant_of-result : goal.invariant_of-result
invariant_of-result c = let made = c.in_ok-ranks.ensures in IsRanking-listed _ c.in_ok-ranks.ranks.items made.ranks made.grid

pub returns-clause-ok : goal.returns-clause-ok
returns-clause-ok c =
    let made = c.in_ok-ranks.ensures in
    IsGenerated-listed _ c.in_ok-ranks.ranks.items made.ranks (IsRanking-listed _ c.in_ok-ranks.ranks.items made.ranks made.grid)
