-- Where each link channel has a rank, a relation over the same channels is ranked where
-- ranks rise with each step.
use Rattle.std.proofs.Common.{◌≡◌, ℕ, sym, subst}
use Rattle.noc_topo.specs.Shape.{Grid}
use Rattle.noc_route.specs.Ranks.{Ranking, rank_at, AreAllRanked, IsRankedBy, IsRising}
use Rattle.noc_route.specs.Routes.{Routes, IsRelation}
use Rattle.noc_route.proofs.RisingLemmas.{rising-ranked}

pub full-ranked : (routes : Routes) → IsRelation routes → (k : Ranking) → routes.grid ≡ k.grid → routes.vcs ≡ k.vcs → AreAllRanked k.grid k.vcs (rank_at k) → IsRising routes (rank_at k) → IsRankedBy routes k
full-ranked routes built k grid vcs full rising =
    let over : AreAllRanked routes.grid routes.vcs (rank_at k)
    = subst (λ (g : Grid). AreAllRanked g routes.vcs (rank_at k)) (sym grid) (subst (λ (n : ℕ). AreAllRanked k.grid n (rank_at k)) (sym vcs) full) in
    rising-ranked routes (rank_at k) built over rising
