-- Rings between two workers, and by them the blocks that tell.
use Rattle.std.proofs.Common.{◌≡◌, ℕ, zero, suc, ◌+◌, ◌/◌, ◌<◌, Bool, true, false, List, [], ◌∷◌, ◌++◌, Contains, Some, length, ap, ap₂, sym, ◌∙◌, subst, arith}
use Rattle.std.specs.Prelude.{◌&&◌, ◌||◌, nat_eq}
use Rattle.std.specs.List.{slice_get}
use Rattle.std.proofs.lemmas.Bool.{eq-eqb, le-leb, lt-ltb}
use Rattle.std.proofs.lemmas.List.Elements.{Contains-append_left}
use Rattle.std.proofs.lemmas.Option.{none-some, same_Some}
use Rattle.noc_theory.specs.Good.{IsGoodSetup}
use Rattle.noc_sets.proofs.MemberLemmas.{or-right}
use Rattle.noc_workers.specs.Cuts.{HasAllNear, MeetsMore}
use Rattle.noc_workers.specs.Mails.{with_blocks}
use Rattle.noc_workers.specs.Rounds.{Start}
use Rattle.noc_engine.specs.Shows.{IsPlanOf, has_block}
use Rattle.noc_workers.specs.Workers.{HasNear, IsReadyPost, near_in, nears_in}
use Rattle.noc_workers.specs.declared.post.Post.{Post}
use Rattle.noc_engine.specs.declared.tile.Tile.{Tile}
use Rattle.noc_workers.proofs.MailLemmas.{with-more}
use Rattle.noc_workers.proofs.WorkerLemmas.{nears-append, with-some}

-- ---- the blocks that tell
-- a block is among some and these besides, if it is one of these
with-one : (from : ℕ → Bool) (blocks : List ℕ) (b : ℕ) → Contains blocks b → with_blocks from blocks b ≡ true
with-one from [] b (k, l, e) = absurd (omega (arith, l))
with-one from (x ∷ xs) b (zero, l, e) = with-some (λ c. from c || nat_eq c x) xs b (or-right (from b) (nat_eq b x) (eq-eqb b x (sym e)))
with-one from (x ∷ xs) b (suc k, l, e) = with-one (λ c. from c || nat_eq c x) xs b (k, omega (arith, l), e)

-- one post more tells
module _ (old new : List Post) (post : Post) (pushed : new ≡ old ++ post ∷ []) where
  parts : with_blocks (λ b. false) (nears_in new) ≡ with_blocks (with_blocks (λ b. false) (nears_in old)) (near_in post ++ [])
  parts = ap (λ ps. with_blocks (λ b. false) (nears_in ps)) pushed ∙ ap (with_blocks (λ b. false)) (nears-append old (post ∷ [])) ∙ sym (with-more (λ b. false) (nears_in old) (near_in post ++ []))

  pub near-kept : (b : ℕ) → HasNear old b → HasNear new b
  near-kept b h = ap (λ f. f b) parts ∙ with-some (with_blocks (λ b. false) (nears_in old)) (near_in post ++ []) b h

  pub near-last : (b : ℕ) → Contains (near_in post) b → HasNear new b
  near-last b h = ap (λ f. f b) parts ∙ with-one (with_blocks (λ b. false) (nears_in old)) (near_in post ++ []) b (Contains-append_left (near_in post) [] b h)

-- what is so of each post, is so of each of one more
each-push : (P : Post → Type 0) (posts : List Post) (post : Post) → ((k : ℕ) (one : Post) → slice_get posts k ≡ Some one → P one) → P post → (k : ℕ) (one : Post) → slice_get (posts ++ post ∷ []) k ≡ Some one → P one
each-push P [] post each is zero one e = subst P (same_Some post one e) is
each-push P [] post each is (suc k) one e = absurd (none-some one e)
each-push P (x ∷ xs) post each is zero one e = each zero one e
each-push P (x ∷ xs) post each is (suc k) one e = each-push P xs post (λ j. each (suc j)) is k one e

-- ---- rings between two workers
module _ (start : Start) (own other : Tile) (near : List ℕ) (good : IsGoodSetup start.net) (plan : IsPlanOf start.net start.plan) (all : HasAllNear start.plan other own near) where
  -- no links lead from the one to the other
  pub meets-none : (posts : List Post) → length near ≡ 0 → MeetsMore start own other posts posts
  meets-none posts none = record {
    ready = λ h. h;
    kept = λ b h. h;
    more = λ s q r port l e f h. let has = all start.net s q r port good plan l e f h in absurd (omega (arith, none, has.1));
  }

  -- they have rings, by which all of these tell
  pub meets-by : (old new : List Post) (post : Post) → new ≡ old ++ post ∷ [] → ((b : ℕ) → Contains near b → Contains (near_in post) b) → IsReadyPost start (has_block own) 0 post → MeetsMore start own other old new
  meets-by old new post pushed tell is = record {
    ready = λ h. subst (λ (ps : List Post). (k : ℕ) (one : Post) → slice_get ps k ≡ Some one → IsReadyPost start (has_block own) 0 one) (sym pushed) (each-push (λ one. IsReadyPost start (has_block own) 0 one) old post h is);
    kept = near-kept old new post pushed;
    more = λ s q r port l e f h. near-last old new post pushed (s / 64) (tell (s / 64) (all start.net s q r port good plan l e f h));
  }

-- a tile has its first block, if it has one
pub first-own : (tile : Tile) → 0 < length tile.blocks.items → has_block tile tile.first ≡ true
first-own tile some = ap₂ (λ x y. x && y) (le-leb tile.first tile.first (omega arith)) (lt-ltb tile.first (tile.first + length tile.blocks.items) (omega (arith, some)))
