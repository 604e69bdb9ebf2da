use Rattle.std.proofs.Common.{◌≡◌, ℕ, Bool, ◌+◌, ◌<◌, Some, take}
use Rattle.std.specs.List.{slice_get}
use Rattle.noc_workers.specs.Mails.{HasHeard, HasSameBlocks, with_blocks}
use Rattle.noc_workers.specs.Rounds.{Start}
use Rattle.noc_engine.specs.Shows.{has_block}
use Rattle.noc_workers.specs.Workers.{ArePosts, IsReadyPost, nears_in}
use Rattle.noc_workers.specs.declared.post.Post.{Post}
use Rattle.noc_engine.specs.declared.tile.Tile.{Tile}
use Rattle.noc_engine.proofs.ListLemmas.{IsLeftFrom}
use Rattle.noc_workers.proofs.worker.receive_all.Given as goal

-- by the posts before this one it has come, and the others are as they were
abbrev pub invariant-loop-k : goal.invariant-loop-k
invariant-loop-k g l = record {
  near : nears_in l.posts ≡ nears_in l.fn.posts;
  rest : IsLeftFrom l.fn.posts l.posts l.k;
  tile : HasSameBlocks l.fn.tile l.tile;
  heard : (start : Start) (c : ℕ) (from : ℕ → Bool) (was : Tile) → HasHeard start.net start.plan (start.cycle + c) from was l.fn.tile → ArePosts start (has_block was) (c + 1) c l.fn.posts
      → HasHeard start.net start.plan (start.cycle + c) (with_blocks from (nears_in (take l.k l.fn.posts))) was l.tile;
  ready : (start : Start) (c : ℕ) (from : ℕ → Bool) (was : Tile) → HasHeard start.net start.plan (start.cycle + c) from was l.fn.tile → ArePosts start (has_block was) (c + 1) c l.fn.posts
      → (j : ℕ) (post : Post) → j < l.k → slice_get l.posts j ≡ Some post → IsReadyPost start (has_block was) (c + 1) post;
}
