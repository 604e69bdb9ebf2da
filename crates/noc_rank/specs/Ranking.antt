-- Ranks within their limits.
use Rattle.std.specs.Prelude.{◌≡◌, ℕ, ◌≤◌, true, Some, length}
use Rattle.noc_topo.specs.Shape.{IsGrid}
use Rattle.noc_route.specs.Ranks.{Ranking, is_channel, rank_count, rank_at}
use Rattle.noc_rank.specs.declared.rows.TheConstants.{MAX_RANK}

-- only link channels have ranks, and each rank is 1 to MAX_RANK
pub record IsRanking (k : Ranking) : Type 0 where
  pub grid : IsGrid k.grid
  pub long : length k.ranks ≡ rank_count k.grid k.vcs
  pub real : (r p v n : ℕ) → rank_at k r p v ≡ Some n → is_channel k.grid k.vcs r p v ≡ true
  pub low : (r p v n : ℕ) → rank_at k r p v ≡ Some n → 1 ≤ n
  pub high : (r p v n : ℕ) → rank_at k r p v ≡ Some n → n ≤ MAX_RANK
