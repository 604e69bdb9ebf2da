-- A cycle of a worker.
use Rattle.std.proofs.Common.{◌≡◌, ℕ, zero, suc, ◌+◌, ◌<◌, ◌≤◌, Bool, true, false, List, [], ◌∷◌, ◌++◌, Some, set as write, take, refl, ap, sym, ◌∙◌, subst, arith, append_assoc, ◌/◌}
use Rattle.std.specs.Prelude.{◌||◌, nat_eq}
use Rattle.std.specs.List.{slice_get}
use Rattle.std.proofs.lemmas.Bool.{true≢false}
use Rattle.std.proofs.lemmas.List.{append-nil}
use Rattle.std.proofs.lemmas.Option.{none-some, same_Some}
use Rattle.noc_route.specs.Routes.{Routes}
use Rattle.noc_sets.specs.Cycle.{Router, Turn}
use Rattle.noc_sets.proofs.MemberLemmas.{or-left, or-right}
use Rattle.noc_theory.specs.Network.{Setup}
use Rattle.noc_workers.specs.Mails.{HasHeard, HasSameBlocks, with_blocks}
use Rattle.noc_workers.specs.Rounds.{Start}
use Rattle.noc_engine.specs.Shows.{ShowsTile, has_block}
use Rattle.noc_columns.specs.declared.words.TheConstants.{ROUTERS}
use Rattle.noc_engine.specs.Tiles.{AreNear, HasRunTile, HasStepped, HasTurnedTile, MayRunTile, Shows}
use Rattle.noc_workers.specs.Workers.{AreReady, IsWorkerAt, MayRunFrom, near_in, nears_in}
use Rattle.noc_engine.specs.declared.plan.Plan.{Plan}
use Rattle.noc_workers.specs.declared.post.Post.{Post}
use Rattle.noc_engine.specs.declared.tile.Tile.{Tile}
use Rattle.noc_workers.specs.declared.worker.Worker.{Worker}
use Rattle.noc_workers.proofs.MailLemmas.{heard-same, same-own, take-next, with-more}

-- ---- the blocks that tell
-- they stay, where those of one ring do
pub near-set : (now : List Post) (k : ℕ) (old new : Post) → slice_get now k ≡ Some old → near_in new ≡ near_in old → nears_in (write now k new) ≡ nears_in now
near-set [] k old new is same = absurd (none-some old is)
near-set (x ∷ xs) zero old new is same = ap (λ ns. ns ++ nears_in xs) (same ∙ ap near_in (sym (same_Some x old is)))
near-set (x ∷ xs) (suc k) old new is same = ap (λ ns. near_in x ++ ns) (near-set xs k old new is same)

pub nears-append : (xs ys : List Post) → nears_in (xs ++ ys) ≡ nears_in xs ++ nears_in ys
nears-append [] ys = refl
nears-append (x ∷ xs) ys = ap (λ ns. near_in x ++ ns) (nears-append xs ys) ∙ sym (append_assoc (near_in x) (nears_in xs) (nears_in ys))

-- .. by the first posts, and the next one
pub nears-next : (from : ℕ → Bool) (posts : List Post) (k : ℕ) (post : Post) → slice_get posts k ≡ Some post → with_blocks (with_blocks from (nears_in (take k posts))) (near_in post) ≡ with_blocks from (nears_in (take (k + 1) posts))
nears-next from posts k post is =
    with-more from (nears_in (take k posts)) (near_in post)
    ∙ ap (with_blocks from) (sym (ap nears_in (take-next posts k post is) ∙ nears-append (take k posts) (post ∷ []) ∙ ap (λ ns. nears_in (take k posts) ++ ns) (append-nil (near_in post))))

-- a block is among some and these besides, if it is among some, or among more of them
pub with-some : (from : ℕ → Bool) (blocks : List ℕ) (b : ℕ) → from b ≡ true → with_blocks from blocks b ≡ true
with-some from [] b e = e
with-some from (x ∷ xs) b e = with-some (λ c. from c || nat_eq c x) xs b (or-left (from b) (nat_eq b x) e)

with-those : (from more : ℕ → Bool) (blocks : List ℕ) (b : ℕ) → (from b ≡ true → more b ≡ true) → with_blocks from blocks b ≡ true → with_blocks more blocks b ≡ true
with-those from more [] b up e = up e
with-those from more (x ∷ xs) b up e = with-those (λ c. from c || nat_eq c x) (λ c. more c || nat_eq c x) xs b (either (from b) (more b) (nat_eq b x) up) e
  where
    either : (p r q : Bool) → (p ≡ true → r ≡ true) → (p || q) ≡ true → (r || q) ≡ true
    either true r q up e = or-left r q (up refl)
    either false r q up e = or-right r q e

-- ---- a cycle
module _ (start : Start) (c : ℕ) (worker : Worker) (may : MayRunFrom start c 1 worker) where
  -- it has heard from these blocks in cycle c of the run
  abbrev pub Heard : (ℕ → Bool) → Tile → Type 0
  Heard from is = HasHeard start.net start.plan (start.cycle + c) from worker.tile is

  -- its tile may have its turn, and has had it
  pub may-turn : (relation : Routes) → start.net.relation ≡ relation → (words : ℕ → Router) × MayRunTile start.net relation start.plan (start.cycle + c) words worker.tile
  may-turn relation is = (may.at.shows.0, record { good = may.good; is = is; few = let few = may.few in omega (arith, few); shows = may.at.shows.1 })

  pub has-turned : (relation : Routes) (ran : Tile) → start.net.relation ≡ relation
      → ((net : Setup) (n : ℕ) (words : ℕ → Router) → MayRunTile net relation start.plan n words worker.tile → (turns : ℕ → Turn) × HasTurnedTile net start.plan n words turns worker.tile ran) → Heard (λ b. false) ran
  has-turned relation ran is turn =
      let first = may-turn relation is in
      let turned = turn start.net (start.cycle + c) first.0 first.1 in
      record { words = first.0; turns = turned.0; ran = turned.1.ran }

  pub has-own : (ran is : Tile) → Heard (λ b. false) ran
      → ((net : Setup) (plan : Plan) (n : ℕ) (words : ℕ → Router) (turns : ℕ → Turn) (was : Tile) → HasRunTile net plan n (λ b. false) words turns was ran → HasRunTile net plan n (has_block ran) words turns was is)
      → Heard (has_block worker.tile) is
  has-own ran is heard own = record {
    words = heard.words;
    turns = heard.turns;
    ran = subst (λ f. HasRunTile start.net start.plan (start.cycle + c) f heard.words heard.turns worker.tile is)
        (same-own worker.tile ran (heard-same start.net start.plan (start.cycle + c) (λ b. false) worker.tile ran heard))
        (own start.net start.plan (start.cycle + c) heard.words heard.turns worker.tile heard.ran);
  }

  -- it has heard from all by these posts
  module _ (posts : List Post) (same : nears_in posts ≡ nears_in worker.posts.items) (ran : Tile) (heard : Heard (with_blocks (has_block worker.tile) (nears_in posts)) ran) where
    along : has_block ran ≡ has_block worker.tile
    along = same-own worker.tile ran (heard-same start.net start.plan (start.cycle + c) (with_blocks (has_block worker.tile) (nears_in posts)) worker.tile ran heard)

    near-heard : AreNear start.net ran (with_blocks (has_block worker.tile) (nears_in posts))
    near-heard s q r port l has link not =
        with-those (λ b. false) (has_block worker.tile) (nears_in posts) (s / ROUTERS) (λ e. absurd (true≢false (sym e)))
        (ap (λ (ns : List ℕ). with_blocks (λ b. false) ns (s / ROUTERS)) same
        ∙ may.at.near s q r port l (ap (λ f. f (r / ROUTERS)) (sym along) ∙ has) link (ap (λ f. f (s / ROUTERS)) (sym along) ∙ not))

    -- .. and what is near has come over the links
    module _ (is : Tile)
        (gather : (net : Setup) (n : ℕ) (from : ℕ → Bool) (words : ℕ → Router) (turns : ℕ → Turn) (was : Tile) → HasRunTile net start.plan n from words turns was ran
        → ((b : ℕ) → has_block ran b ≡ true → from b ≡ true) → AreNear net ran from → (next : ℕ → Router) × HasStepped net start.plan n words next was is) where
      has-stepped : (next : ℕ → Router) × HasStepped start.net start.plan (start.cycle + c) heard.words next worker.tile is
      has-stepped =
          gather start.net (start.cycle + c) (with_blocks (has_block worker.tile) (nears_in posts)) heard.words heard.turns worker.tile heard.ran
          (λ b e. with-some (has_block worker.tile) (nears_in posts) b (ap (λ f. f b) (sym along) ∙ e)) near-heard

      pub stepped-same : HasSameBlocks worker.tile is
      stepped-same = record { first_is = has-stepped.1.first_is; blocks_are = has-stepped.1.blocks_are }

      pub next-at : (next : Worker) → next.tile ≡ is → nears_in next.posts.items ≡ nears_in posts → AreReady start (has_block worker.tile) (c + 1) next.posts.items → IsWorkerAt start (c + 1) next
      next-at next there near ready =
          let own : has_block next.tile ≡ has_block worker.tile = ap has_block there ∙ same-own worker.tile is stepped-same in
          record {
            shows = subst (Shows start.net start.plan (start.cycle + (c + 1))) (sym there) (has-stepped.0, subst (λ n. ShowsTile start.net start.plan n has-stepped.0 is) (omega arith) has-stepped.1.shows);
            posts = subst (λ f. AreReady start f (c + 1) next.posts.items) (sym own) ready;
            near = λ s q r port l has link not.
                ap (λ (ns : List ℕ). with_blocks (λ b. false) ns (s / ROUTERS)) (near ∙ same)
                ∙ may.at.near s q r port l (ap (λ f. f (r / ROUTERS)) (sym own) ∙ has) link (ap (λ f. f (s / ROUTERS)) (sym own) ∙ not);
          }

-- ---- a run
-- a cycle of it may run
pub may-cycle : (start : Start) (cycles c done : ℕ) (first worker : Worker) → MayRunFrom start done cycles first → c < cycles → IsWorkerAt start (done + c) worker → MayRunFrom start (done + c) 1 worker
may-cycle start cycles c done first worker may low at = record { good = may.good; few = let few = may.few in omega (arith, few, low); at = at }

-- none has run
pub none-run : (start : Start) (cycles done : ℕ) (worker : Worker) → MayRunFrom start done cycles worker → IsWorkerAt start (done + 0) worker
none-run start cycles done worker may = subst (λ n. IsWorkerAt start n worker) (omega arith) may.at

-- .. and one more
pub one-more : (start : Start) (done c : ℕ) (worker : Worker) → IsWorkerAt start (done + c + 1) worker → IsWorkerAt start (done + (c + 1)) worker
one-more start done c worker at = subst (λ n. IsWorkerAt start n worker) (omega arith) at

-- whether it is whole is not part of it
pub whole-worker : (start : Start) (done c n : ℕ) (worker : Worker) (whole : Bool) → c ≤ n → n ≤ c → IsWorkerAt start (done + c) worker → IsWorkerAt start (done + n) (record worker { is_whole = whole })
whole-worker start done c n worker whole a b at =
    let same : done + c ≡ done + n = omega (arith, a, b) in
    let end = subst (λ k. IsWorkerAt start k worker) same at in
    record { shows = end.shows; posts = end.posts; near = end.near }
