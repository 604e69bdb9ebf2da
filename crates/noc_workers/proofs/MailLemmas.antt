-- What a mail tells, one block after the other.
use Rattle.std.proofs.Common.{◌≡◌, ◌≢◌, ℕ, suc, ◌+◌, ◌<◌, ◌≤◌, Bool, true, List, [], ◌∷◌, ◌++◌, Some, length, map, All, set as write, take, refl, ap, ap₂, sym, ◌∙◌, subst, arith, inl, inr}
use Rattle.std.specs.Prelude.{◌⊎◌, ◌||◌, ◌&&◌, nat_eq, nat_le, nat_lt}
use Rattle.std.specs.List.{slice_get}
use Rattle.std.proofs.lemmas.Bool.{cases_eq}
use Rattle.std.proofs.lemmas.Grind.{take_at_read}
use Rattle.std.proofs.lemmas.List.{map-append, take_all}
use Rattle.std.proofs.lemmas.List.Sums.{fold-append}
use Rattle.std.proofs.lemmas.Option.{get_or_from_slice_get, same_Some, slice_get_within}
use Rattle.noc_sets.specs.Cycle.{Router, Turn}
use Rattle.noc_theory.specs.Network.{Setup}
use Rattle.noc_workers.specs.Mails.{HasHeard, HasSameBlocks, with_blocks}
use Rattle.noc_engine.specs.Shows.{has_block}
use Rattle.noc_engine.specs.Tiles.{HasRunTile}
use Rattle.noc_engine.specs.declared.plan.Plan.{Plan}
use Rattle.noc_engine.specs.declared.tile.Tile.{Tile}
use Rattle.noc_engine.specs.declared.exchange.Told.{Told}
use Rattle.noc_engine.proofs.ListLemmas.{others, same-item, written}

-- items below k are so, and the next one
pub each-next : {S : Type 0} (P : ℕ → S → Type 0) (now : List S) (k : ℕ) (new : S) → k < length now → ((j : ℕ) (x : S) → j < k → slice_get now j ≡ Some x → P j x) → P k new
    → (j : ℕ) (x : S) → j < k + 1 → slice_get (write now k new) j ≡ Some x → P j x
each-next P now k new within done here j x below is = at (cases_eq j k)
  where
    at : (j ≡ k) ⊎ (j ≢ k) → P j x
    at (inl same) = subst (P j) (same-item new x (slice_get (write now k new) k) (written now k new within) (ap (slice_get (write now k new)) (sym same) ∙ is)) (subst (λ (i : ℕ). P i new) (sym same) here)
    at (inr other) = done j x (omega (arith, below, other)) (sym (others now k j new other) ∙ is)

pub index-within : (k n m : ℕ) → k < n → m ≡ n → k < m
index-within k n m l e = omega arith

pub all-done : (j m n k : ℕ) → j < m → m ≡ n → n ≤ k → j < k
all-done j m n k l e u = omega arith

-- a mail that has the block of each place is of these blocks
pub same-blocks : (told : List Told) (blocks : List ℕ) → length told ≡ length blocks → ((j : ℕ) (x : Told) → slice_get told j ≡ Some x → slice_get blocks j ≡ Some x.block) → map (λ (x : Told). x.block) told ≡ blocks
same-blocks [] [] many each = refl
same-blocks [] (y ∷ ys) many each = absurd (omega (arith, many))
same-blocks (x ∷ xs) [] many each = absurd (omega (arith, many))
same-blocks (x ∷ xs) (y ∷ ys) many each =
    ap (λ b. b ∷ map (λ (o : Told). o.block) xs) (sym (same_Some y x.block (each 0 x refl)))
    ∙ ap (λ bs. y ∷ bs) (same-blocks xs ys (omega (arith, many)) (λ j. each (suc j)))

-- a tile that has heard has its own blocks
pub same-own : (was is : Tile) → HasSameBlocks was is → has_block is ≡ has_block was
same-own was is same = ap₂ (λ first many b. nat_le first b && nat_lt b (first + many)) same.first_is same.blocks_are

module _ (net : Setup) (plan : Plan) (n : ℕ) (from : ℕ → Bool) (was is : Tile) (heard : HasHeard net plan n from was is) where
  pub heard-same : HasSameBlocks was is
  heard-same = record { first_is = heard.ran.first_is; blocks_are = heard.ran.blocks_are }

  pub heard-own : (blocks : List ℕ) → All (λ b. has_block was b ≡ true) blocks → All (λ b. has_block is b ≡ true) blocks
  heard-own blocks own = subst (λ (f : ℕ → Bool). All (λ b. f b ≡ true) blocks) (sym (same-own was is heard-same)) own

pub same-after : (was now is : Tile) → HasSameBlocks was now → HasSameBlocks now is → HasSameBlocks was is
same-after was now is before after = record { first_is = after.first_is ∙ before.first_is; blocks_are = after.blocks_are ∙ before.blocks_are }

-- .. also when it has heard more
pub both-same : (net : Setup) (plan : Plan) (n : ℕ) (from more : ℕ → Bool) (was now is : Tile) → HasHeard net plan n from was now → HasHeard net plan n more was is → HasSameBlocks now is
both-same net plan n from more was now is before after = record { first_is = after.ran.first_is ∙ sym before.ran.first_is; blocks_are = after.ran.blocks_are ∙ sym before.ran.blocks_are }

-- ---- of which blocks it has been heard
-- .. and of these besides
pub with-more : (from : ℕ → Bool) (xs ys : List ℕ) → with_blocks (with_blocks from xs) ys ≡ with_blocks from (xs ++ ys)
with-more from xs ys = sym (fold-append (λ (some : ℕ → Bool) (block b : ℕ). some b || nat_eq b block) from xs ys)

pub take-next : {S : Type 0} (xs : List S) (k : ℕ) (x : S) → slice_get xs k ≡ Some x → take (k + 1) xs ≡ take k xs ++ x ∷ []
take-next xs k x is = (take_at_read xs k x (slice_get_within xs k x is)).1 ∙ ap (λ y. take k xs ++ y ∷ []) (get_or_from_slice_get xs k x x is)

pub with-next : (from : ℕ → Bool) (told : List Told) (k : ℕ) (x : Told) → slice_get told k ≡ Some x
    → (λ b. with_blocks from (map (λ (o : Told). o.block) (take k told)) b || nat_eq b x.block) ≡ with_blocks from (map (λ (o : Told). o.block) (take (k + 1) told))
with-next from told k x is =
    with-more from (map (λ (o : Told). o.block) (take k told)) (x.block ∷ [])
    ∙ ap (with_blocks from) (sym (ap (map (λ (o : Told). o.block)) (take-next told k x is) ∙ map-append (λ (o : Told). o.block) (take k told) (x ∷ [])))

module _ (net : Setup) (plan : Plan) (n : ℕ) (from : ℕ → Bool) (was next : Tile) (told : List Told) where
  pub heard-next : (words : ℕ → Router) (turns : ℕ → Turn) (k : ℕ) (x : Told) → slice_get told k ≡ Some x
      → HasRunTile net plan n (λ b. with_blocks from (map (λ (o : Told). o.block) (take k told)) b || nat_eq b x.block) words turns was next
      → HasHeard net plan n (with_blocks from (map (λ (o : Told). o.block) (take (k + 1) told))) was next
  heard-next words turns k x is ran = record { words = words; turns = turns; ran = subst (λ f. HasRunTile net plan n f words turns was next) (with-next from told k x is) ran }

  pub heard-all : (k : ℕ) → length told ≤ k → HasHeard net plan n (with_blocks from (map (λ (o : Told). o.block) (take k told))) was next → HasHeard net plan n (with_blocks from (map (λ (o : Told). o.block) told)) was next
  heard-all k long heard = subst (λ (xs : List Told). HasHeard net plan n (with_blocks from (map (λ (o : Told). o.block) xs)) was next) (take_all k told long) heard
