-- A tile is cut into tiles, and their workers have rings.
use Rattle.std.proofs.Common.{◌≡◌, ℕ, zero, suc, ◌+◌, ◌-◌, ◌*◌, ◌/◌, ◌<◌, ◌≤◌, true, false, List, [], ◌∷◌, Some, length, set as write, refl, ap, sym, ◌∙◌, subst, arith, inl, inr}
use Rattle.std.specs.Prelude.{◌⊎◌}
use Rattle.std.specs.List.{slice_get}
use Rattle.std.proofs.Math.Nat.{div-le_self, div-mul-le_self}
use Rattle.std.proofs.lemmas.Bool.{cases_lt, true≢false}
use Rattle.std.proofs.lemmas.Nat.{le-div}
use Rattle.std.proofs.lemmas.Option.{none-some}
use Rattle.noc_workers.specs.Cuts.{AreNew, AreSide, IsNew, MeetsMore}
use Rattle.noc_workers.specs.Rounds.{Start}
use Rattle.noc_engine.specs.Shows.{has_block, has_router}
use Rattle.noc_engine.specs.Tiles.{IsCut, Shows}
use Rattle.noc_workers.specs.Workers.{AreReady}
use Rattle.noc_engine.specs.declared.tile.Tile.{Tile}
use Rattle.noc_workers.specs.declared.worker.Worker.{Worker}
use Rattle.noc_engine.proofs.WholeLemmas.{is-block}
use Rattle.noc_workers.proofs.SideLemmas.{AreChanging, changing-at, changing-done, changing-next, changing-none, reach, reach-done, reach-next}

-- a new worker has met one more: the blocks of this one or of that one are now those in question
met-more : (start : Start) (from to low high : ℕ) (other : Tile) (was is : Worker) → is.tile ≡ was.tile → MeetsMore start was.tile other was.posts.items is.posts.items
    → ((b : ℕ) → low ≤ b → b < high → ((from ≤ b) × (b < to)) ⊎ (has_block other b ≡ true)) → IsNew start from to was → IsNew start low high is
met-more start from to low high other was is same meets within new = record {
  shows = subst (λ t. Shows start.net start.plan start.cycle t) (sym same) new.shows;
  some = subst (λ (t : Tile). 0 < length t.blocks.items) (sym same) new.some;
  posts = subst (λ t. AreReady start (has_block t) 0 is.posts.items) (sym same) (meets.ready new.posts);
  near = λ s q r port l e f h less more.
      let ours : has_router was.tile r ≡ true = ap (λ t. has_router t r) (sym same) ∙ e in
      let theirs : has_router was.tile s ≡ false = ap (λ t. has_router t s) (sym same) ∙ h in
      elim (within (s / 64) less more) [
        | inl old ↦ meets.kept (s / 64) (new.near s q r port l ours f theirs old.0 old.1)
        | inr has ↦ meets.more s q r port l ours f has
      ];
}

-- ---- a new worker meets those behind it, one after the other
-- it has met so many of them
pub record IsMeeting (start : Start) (at from : ℕ) (tile : Tile) (k : ℕ) (one : Worker) (workers : List Worker) : Type 0 where
  pub same : one.tile ≡ tile
  pub new : IsNew start at (reach from k workers) one
  pub others : AreChanging (IsNew start at (length start.plan.around.items)) (IsNew start from (length start.plan.around.items)) k from (length start.plan.around.items) workers

module _ (start : Start) (from : ℕ) (was : Worker) (behind : from ≡ was.tile.first + length was.tile.blocks.items) where
  abbrev all : ℕ
  all = length start.plan.around.items

  abbrev Met : Worker → Type 0
  Met = IsNew start was.tile.first all

  abbrev Unmet : Worker → Type 0
  Unmet = IsNew start from all

  abbrev Meeting : ℕ → Worker → List Worker → Type 0
  Meeting = IsMeeting start was.tile.first from was.tile

  pub meeting-none : (workers : List Worker) → IsNew start from from was → AreNew start from workers → Meeting 0 was workers
  meeting-none workers new are = record {
    same = refl;
    new = record {
      shows = new.shows;
      some = new.some;
      posts = new.posts;
      near = λ s q r port l e f h less more. absurd (true≢false (sym (is-block was.tile (s / 64) less (omega (arith, more, behind))) ∙ h));
    };
    others = changing-none Met Unmet from all workers are;
  }

  module _ (k : ℕ) (one there : Worker) (workers : List Worker) (is : Meeting k one workers) (here : slice_get workers k ≡ Some there) where
    next : (there.tile.first ≡ reach from k workers) × Unmet there × (reach from (suc k) workers ≡ there.tile.first + length there.tile.blocks.items)
    next = changing-at Met Unmet k from all workers there here is.others

    pub there-new : IsNew start from (length start.plan.around.items) there
    there-new = next.1

    pub meeting-next : (now then : Worker) → now.tile ≡ one.tile → then.tile ≡ there.tile → MeetsMore start one.tile there.tile one.posts.items now.posts.items → MeetsMore start there.tile one.tile there.posts.items then.posts.items
        → Meeting (k + 1) now (write workers k then)
    meeting-next now then same_one same_there more_one more_there = subst (λ n. Meeting n now (write workers k then)) (omega arith) (record {
      same = same_one ∙ is.same;
      new = met-more start was.tile.first (reach from k workers) was.tile.first (reach from (suc k) (write workers k then)) there.tile one now same_one more_one (λ b low high. at b low (cases_lt b (reach from k workers)) high) is.new;
      others = changing-next Met Unmet k from all workers there then here same_there
          (met-more start from all was.tile.first all one.tile there then same_there more_there (λ b low high. before b low high (cases_lt b from)) there-new) is.others;
    })
      where
        reached : reach from (suc k) (write workers k then) ≡ there.tile.first + length there.tile.blocks.items
        reached = reach-next Met Unmet k from all workers there then here same_there is.others

        at : (b : ℕ) → was.tile.first ≤ b → (b < reach from k workers) ⊎ (reach from k workers ≤ b) → b < reach from (suc k) (write workers k then)
            → ((was.tile.first ≤ b) × (b < reach from k workers)) ⊎ (has_block there.tile b ≡ true)
        at b low (inl below) high = inl (low, below)
        at b low (inr past) high = inr (is-block there.tile b (omega (arith, past, next.0)) (omega (arith, high, reached)))

        before : (b : ℕ) → was.tile.first ≤ b → b < all → (b < from) ⊎ (from ≤ b) → ((from ≤ b) × (b < all)) ⊎ (has_block one.tile b ≡ true)
        before b low high (inr past) = inl (past, high)
        before b low high (inl below) = inr (subst (λ t. has_block t b ≡ true) (sym is.same) (is-block was.tile b low (omega (arith, below, behind))))

  -- it has met them all
  pub meeting-done : (k : ℕ) (one : Worker) (workers : List Worker) → length workers ≤ k → Meeting k one workers → AreNew start was.tile.first (one ∷ workers)
  meeting-done k one workers long is = (
    ap (λ t. t.first) is.same,
    subst (λ n. IsNew start was.tile.first n one) (reach-done Met Unmet k from all workers long is.others) is.new,
    subst (λ n. AreSide Met n all workers) (behind ∙ ap (λ (t : Tile). was.tile.first + length t.blocks.items) (sym is.same)) (changing-done Met Unmet k from all workers long is.others),
  )

-- a worker that has no rings yet
pub new-one : (start : Start) (from : ℕ) (one : Worker) → Shows start.net start.plan start.cycle one.tile → 0 < length one.tile.blocks.items → one.posts.items ≡ [] → IsNew start from from one
new-one start from one shows some none = record {
  shows = shows;
  some = some;
  posts = λ k post e. absurd (none-some post (ap (λ ps. slice_get ps k) (sym none) ∙ e));
  near = λ s q r port l e f h low high. absurd (omega (arith, low, high));
}

-- ---- a tile is cut into as many as are left
less-left : (part left many : ℕ) → 0 < part → 0 < left → part * left ≤ many → left - 1 ≤ many - part
less-left zero left many some more within = absurd (omega (arith, some))
less-left (suc p) zero many some more within = absurd (omega (arith, more))
less-left (suc p) (suc m) many some more within = omega (arith, within)

pub cut-part : (many left : ℕ) → 1 < left → left ≤ many → (0 < many / left) × (many / left ≤ many) × (left - 1 ≤ many - many / left)
cut-part many left some most =
    let once : 0 < many / left = let one = le-div 1 many left (omega (arith, some)) (omega (arith, most)) in omega (arith, one) in
    (once, div-le_self many left, less-left (many / left) left many once (omega (arith, some)) (div-mul-le_self many left))

-- those that are cut off have workers, and these are left
pub record IsCutting (start : Start) (first left : ℕ) (rest : Tile) (workers : List Worker) : Type 0 where
  pub shows : Shows start.net start.plan start.cycle rest
  pub first_is : rest.first ≡ first
  pub some : 0 < left
  pub most : left ≤ length rest.blocks.items
  pub are : AreNew start (rest.first + length rest.blocks.items) workers

module _ (start : Start) (first left at : ℕ) (rest here there : Tile) (workers : List Worker) (is : IsCutting start first left rest workers) (more : 1 < left)
    (at_is : at ≡ rest.first + (length rest.blocks.items - length rest.blocks.items / left)) (cut : IsCut at rest here there) where
  part : (0 < length rest.blocks.items / left) × (length rest.blocks.items / left ≤ length rest.blocks.items) × (left - 1 ≤ length rest.blocks.items - length rest.blocks.items / left)
  part = cut-part (length rest.blocks.items) left more is.most

  both : Shows start.net start.plan start.cycle here × Shows start.net start.plan start.cycle there
  both = let two = cut.shows start.net start.plan start.cycle is.shows.0 is.shows.1 in ((is.shows.0, two.0), (is.shows.0, two.1))

  pub cut-off : Shows start.net start.plan start.cycle there × (0 < length there.blocks.items) × AreNew start (there.first + length there.blocks.items) workers
  cut-off = (
    both.1,
    let a = cut.there_is in let b = cut.there_are in omega (arith, a, b, at_is, part.0, part.1),
    subst (λ n. AreNew start n workers) (sym cut.there_are) is.are,
  )

  pub cut-next : (next : List Worker) → AreNew start there.first next → IsCutting start first (left - 1) here next
  cut-next next are = record {
    shows = both.0;
    first_is = cut.first_is ∙ is.first_is;
    some = omega (arith, more);
    most = let a = cut.first_is in let b = cut.here_are in omega (arith, a, b, at_is, part.2);
    are = subst (λ n. AreNew start n next) (cut.there_is ∙ sym cut.here_are) are;
  }
