-- A tile in a run, and its rings to the tiles near it.
use Rattle.std.specs.Prelude.{◌≡◌, ℕ, ◌+◌, ◌≤◌, Bool, true, false, List, [], ◌∷◌, ◌++◌, All, Some, length}
use Rattle.std.specs.List.{slice_get}
use Rattle.rtrb.specs.Ring.{sent, received}
use Rattle.noc_theory.specs.Good.{IsGoodSetup}
use Rattle.noc_theory.specs.declared.limits.TheConstants.{CYCLE_LIMIT}
use Rattle.noc_workers.specs.Mails.{HasHeard, HasSameBlocks, blocks_in, with_blocks}
use Rattle.noc_workers.specs.Rounds.{Start, start_in}
use Rattle.noc_engine.specs.Shows.{has_block}
use Rattle.noc_engine.specs.Tiles.{AreNear, Shows}
use Rattle.noc_workers.specs.declared.mail.Mail.{Mail}
use Rattle.noc_workers.specs.declared.post.Post.{Post}
use Rattle.noc_engine.specs.declared.tile.Tile.{Tile}
use Rattle.noc_workers.specs.declared.worker.Worker.{Worker}

-- ---- rings
-- the blocks that tell by a ring, as its first mail says
abbrev pub senders : List Mail → List ℕ
senders [] = []
senders (first ∷ rest) = blocks_in first

-- those of the other tile that tell this one
abbrev pub near_in : Post → List ℕ
near_in post = senders (received post.back)

-- these mails have gone through a ring: a first one of these blocks, and those of so many cycles
pub record HaveGone (start : Start) (from : List ℕ) (cycles : ℕ) (mails : List Mail)
    : Type 0 where
  pub first : Mail
  pub rest : List Mail
  pub are : mails ≡ first ∷ rest
  pub blocks : blocks_in first ≡ from
  pub is : start_in first ≡ start
  pub many : length rest ≡ cycles

-- the rings to another tile, after so many cycles have gone out and so many have come: own blocks
-- tell by the one, and as many by the other
pub record IsPost (start : Start) (own : ℕ → Bool) (out back : ℕ) (post : Post) : Type 0 where
  pub gone : HaveGone start post.blocks.items out (sent post.out)
  pub come : HaveGone start (near_in post) back (received post.back)
  pub as_many : length (near_in post) ≡ length post.blocks.items
  pub ours : All (λ b. own b ≡ true) post.blocks.items

-- they are ready for cycle c of the run, with a mail to write that has a place for each block
pub record IsReadyPost (start : Start) (own : ℕ → Bool) (c : ℕ) (post : Post) : Type 0 where
  pub rings : IsPost start own c c post
  pub mail : Mail
  pub there : post.mail ≡ Some mail
  pub is : start_in mail ≡ start
  pub places : length mail.told.items ≡ length post.blocks.items

-- each of these is ready, or has its rings
abbrev pub AreReady : Start → (ℕ → Bool) → ℕ → List Post → Type 0
AreReady start own c posts =
    (k : ℕ) (post : Post) → slice_get posts k ≡ Some post → IsReadyPost start own c post

abbrev pub ArePosts : Start → (ℕ → Bool) → ℕ → ℕ → List Post → Type 0
ArePosts start own out back posts =
    (k : ℕ) (post : Post) → slice_get posts k ≡ Some post → IsPost start own out back post

-- what is so of rings, with the blocks that tell by them, and after so many cycles
abbrev pub OfRings : Type 1
OfRings = Start → (ℕ → Bool) → ℕ → Type 0

-- rings that are ready for a cycle, and rings by which it was sent
abbrev pub ReadyPost : Post → OfRings
ReadyPost post = λ start own c. IsReadyPost start own c post

abbrev pub SentPost : Post → OfRings
SentPost post = λ start own c. IsPost start own (c + 1) c post

abbrev pub ReadyPosts : List Post → OfRings
ReadyPosts posts = λ start own c. AreReady start own c posts

abbrev pub SentPosts : List Post → OfRings
SentPosts posts = λ start own c. ArePosts start own (c + 1) c posts

-- rings may take what a tile tells in the cycle that it has run: they are ready for it. And when
-- it is sent, this is so of them.
abbrev pub MaySendBy : Tile → OfRings → Type 0
MaySendBy tile IsReady =
    (start : Start) × (c : ℕ) × (was : Tile)
    × HasHeard start.net start.plan (start.cycle + c) (λ b. false) was tile
    × IsReady start (has_block was) c

abbrev pub HasSentBy : Tile → OfRings → OfRings → Type 0
HasSentBy tile IsReady IsSent =
    (start : Start) (c : ℕ) (was : Tile)
    → HasHeard start.net start.plan (start.cycle + c) (λ b. false) was tile
    → IsReady start (has_block was) c → IsSent start (has_block was) c

-- a tile may wait for what others tell by rings in that cycle: this is so of them. And when it has
-- come, the tile has heard from these blocks besides, and that is so of the rings.
abbrev pub MayReceiveBy : Tile → OfRings → Type 0
MayReceiveBy tile IsSent =
    (start : Start) × (c : ℕ) × (from : ℕ → Bool) × (was : Tile)
    × HasHeard start.net start.plan (start.cycle + c) from was tile
    × IsSent start (has_block was) c

abbrev pub HasReceivedBy : List ℕ → Tile → Tile → OfRings → OfRings → Type 0
HasReceivedBy blocks old new IsSent IsReady =
    (start : Start) (c : ℕ) (from : ℕ → Bool) (was : Tile)
    → HasHeard start.net start.plan (start.cycle + c) from was old
    → IsSent start (has_block was) c
    → HasHeard start.net start.plan (start.cycle + c) (with_blocks from blocks) was new
    × IsReady start (has_block was) (c + 1)

-- the blocks of other tiles that tell one by these
abbrev pub nears_in : List Post → List ℕ
nears_in [] = []
nears_in (post ∷ posts) = near_in post ++ nears_in posts

abbrev pub HasNear : List Post → ℕ → Type 0
HasNear posts b = with_blocks (λ b. false) (nears_in posts) b ≡ true

-- ---- workers
-- a worker after c cycles of the run: all blocks from which links lead to its tile tell by its
-- posts
pub record IsWorkerAt (start : Start) (c : ℕ) (worker : Worker) : Type 0 where
  pub shows : Shows start.net start.plan (start.cycle + c) worker.tile
  pub posts : AreReady start (has_block worker.tile) c worker.posts.items
  pub near : AreNear start.net worker.tile (with_blocks (λ b. false) (nears_in worker.posts.items))

-- after `done` cycles of it, it may run so many more
pub record MayRunFrom (start : Start) (done more : ℕ) (worker : Worker) : Type 0 where
  pub good : IsGoodSetup start.net
  pub few : start.cycle + done + more ≤ CYCLE_LIMIT
  pub at : IsWorkerAt start done worker

-- a worker that came back, of the same blocks: where it is whole, it has run so many more
pub record HasCome (start : Start) (more : ℕ) (was is : Worker) : Type 0 where
  pub blocks : HasSameBlocks was.tile is.tile
  pub whole : is.is_whole ≡ true → (done : ℕ) → MayRunFrom start done more was
      → IsWorkerAt start (done + more) is
