use Rattle.noc_route.proofs.RankLemmas.{same-ranked}
use Rattle.noc_route.specs.Ranks.{rank_at, IsRanked}
use Rattle.noc_route.specs.Relation.{IsPermitted}
use Rattle.std.specs.Prelude.{IsTrue}
use Rattle.std.proofs.Common.{sym, subst}
use Rattle.noc_route.specs.Routes.{permits}
use Rattle.noc_route.proofs.laws.a_relation_is_ranked_as_its_rule.Goals as goal

pub returns : goal.returns
returns c = λ g routes ranks same. (
  λ ranked. subst (λ grid. IsRanked (IsPermitted g) grid (rank_at ranks)) same.grid
      (same-ranked (λ m from t o. IsTrue (permits routes m from t o)) (IsPermitted g) routes.grid (rank_at ranks) (λ m from t o h. (same.exact m from t o).0 h) (λ m from t o h. (same.exact m from t o).1 h) ranked),
  λ ranked. subst (λ grid. IsRanked (λ m from t o. IsTrue (permits routes m from t o)) grid (rank_at ranks)) (sym same.grid)
      (same-ranked (IsPermitted g) (λ m from t o. IsTrue (permits routes m from t o)) g.grid (rank_at ranks) (λ m from t o h. (same.exact m from t o).1 h) (λ m from t o h. (same.exact m from t o).0 h) ranked),
)
