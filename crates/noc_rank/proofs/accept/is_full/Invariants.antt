use Rattle.std.proofs.Common.{◌≡◌, ◌<◌, ◌/◌, ◌%◌, ℕ, true}
use Rattle.std.specs.Prelude.{is_some}
use Rattle.noc_route.specs.Ranks.{is_channel, rank_at}
use Rattle.noc_rank.proofs.accept.is_full.Given as goal

abbrev pub invariant-loop-index : goal.invariant-loop-index
invariant-loop-index l = (n : ℕ) → n < l.index
    → is_channel l.ranked.ranks.now.grid l.ranked.ranks.now.vcs (n / l.vcs / l.ports) (n / l.vcs % l.ports) (n % l.vcs) ≡ true → is_some (rank_at l.ranked.ranks.now (n / l.vcs / l.ports) (n / l.vcs % l.ports) (n % l.vcs)) ≡ true
