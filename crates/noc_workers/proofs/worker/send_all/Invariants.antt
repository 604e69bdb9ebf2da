use Rattle.std.proofs.Common.{◌≡◌, ℕ, ◌+◌, ◌<◌, Some, false}
use Rattle.std.specs.List.{slice_get}
use Rattle.noc_workers.specs.Mails.{HasHeard}
use Rattle.noc_workers.specs.Rounds.{Start}
use Rattle.noc_engine.specs.Shows.{has_block}
use Rattle.noc_workers.specs.Workers.{AreReady, IsPost, nears_in}
use Rattle.noc_workers.specs.declared.post.Post.{Post}
use Rattle.noc_engine.specs.declared.tile.Tile.{Tile}
use Rattle.noc_engine.proofs.ListLemmas.{IsLeftFrom}
use Rattle.noc_workers.proofs.worker.send_all.Given as goal

-- by the posts before this one it is sent, and the others are as they were
abbrev pub invariant-loop-k : goal.invariant-loop-k
invariant-loop-k g l = record {
  near : nears_in l.posts ≡ nears_in l.fn.posts;
  rest : IsLeftFrom l.fn.posts l.posts l.k;
  sent : (start : Start) (c : ℕ) (was : Tile) → HasHeard start.net start.plan (start.cycle + c) (λ b. false) was l.tile → AreReady start (has_block was) c l.fn.posts
      → (j : ℕ) (post : Post) → j < l.k → slice_get l.posts j ≡ Some post → IsPost start (has_block was) (c + 1) c post;
}
