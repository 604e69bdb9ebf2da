-- Workers whose tiles stand side by side.
use Rattle.std.proofs.Common.{◌≡◌, ℕ, zero, suc, ◌+◌, ◌<◌, ◌≤◌, List, [], ◌∷◌, ◌++◌, length, take, drop, get_or, Some, set as write, arith, refl, ap, ap₂, sym, ◌∙◌, subst}
use Rattle.std.specs.List.{remove, slice_get}
use Rattle.noc_workers.specs.Cuts.{AreSide}
use Rattle.noc_engine.specs.declared.tile.Tile.{Tile}
use Rattle.noc_workers.specs.declared.worker.Worker.{Worker}

module _ (Is : Worker → Type 0) where
  -- the first ones and the others
  pub side-split : (k from to : ℕ) (workers : List Worker) → AreSide Is from to workers → (mid : ℕ) × AreSide Is from mid (take k workers) × AreSide Is mid to (drop k workers)
  side-split zero from to workers h = (from, refl, h)
  side-split (suc k) from to [] h = (from, refl, h)
  side-split (suc k) from to (one ∷ rest) h =
      let later = side-split k (from + length one.tile.blocks.items) to rest h.2 in
      (later.0, (h.0, h.1, later.1), later.2)

  pub side-append : (from mid to : ℕ) (some more : List Worker) → AreSide Is from mid some → AreSide Is mid to more → AreSide Is from to (some ++ more)
  side-append from mid to [] more h k = subst (λ n. AreSide Is n to more) (sym h) k
  side-append from mid to (one ∷ rest) more h k = (h.0, h.1, side-append (from + length one.tile.blocks.items) mid to rest more h.2 k)

  -- the first one
  pub side-first : (from to : ℕ) (workers : List Worker) (one : Worker) → 0 < length workers → AreSide Is from to workers → (get_or workers 0 one).tile.first ≡ from
  side-first from to [] one some h = absurd (omega (arith, some))
  side-first from to (first ∷ rest) one some h = h.0

  pub side-taken : (from to : ℕ) (workers rest : List Worker) (one : Worker) → 0 < length workers → one ≡ get_or workers 0 one → rest ≡ remove workers 0 → AreSide Is from to workers
      → (one.tile.first ≡ from) × Is one × AreSide Is (from + length one.tile.blocks.items) to rest
  side-taken from to [] rest one some e same h = absurd (omega (arith, some))
  side-taken from to (first ∷ others) rest one some e same h = subst (λ (ws : List Worker). AreSide Is from to ws) (ap₂ (λ a as'. a ∷ as') (sym e) (sym same)) h

  -- none
  pub side-none : (from to : ℕ) (workers : List Worker) → length workers ≡ 0 → AreSide Is from to workers → from ≡ to
  side-none from to [] none h = h
  side-none from to (one ∷ rest) none h = absurd (omega (arith, none))

-- what follows for each
pub side-map : (Is More : Worker → Type 0) → ((one : Worker) → Is one → More one) → (from to : ℕ) (workers : List Worker) → AreSide Is from to workers → AreSide More from to workers
side-map Is More more from to [] h = h
side-map Is More more from to (one ∷ rest) h = (h.0, more one h.1, side-map Is More more (from + length one.tile.blocks.items) to rest h.2)

-- .. from what each one has
pub side-given : (P Is : Worker → Type 0) (from to : ℕ) (workers : List Worker) → ((i : ℕ) (one : Worker) → slice_get workers i ≡ Some one → P one) → AreSide (λ one. P one → Is one) from to workers → AreSide Is from to workers
side-given P Is from to [] each h = h
side-given P Is from to (one ∷ rest) each h = (h.0, h.1 (each 0 one refl), side-given P Is (from + length one.tile.blocks.items) to rest (λ i. each (suc i)) h.2)

-- ---- one after the other changes
-- so many of the first ones are as the one says, and the others as the other does
abbrev pub AreChanging : (Worker → Type 0) → (Worker → Type 0) → ℕ → ℕ → ℕ → List Worker → Type 0
AreChanging New Old k from to [] = from ≡ to
AreChanging New Old zero from to (one ∷ rest) = (one.tile.first ≡ from) × Old one × AreChanging New Old zero (from + length one.tile.blocks.items) to rest
AreChanging New Old (suc k) from to (one ∷ rest) = (one.tile.first ≡ from) × New one × AreChanging New Old k (from + length one.tile.blocks.items) to rest

-- the block after those
abbrev pub reach : ℕ → ℕ → List Worker → ℕ
reach from zero workers = from
reach from (suc k) [] = from
reach from (suc k) (one ∷ rest) = reach (from + length one.tile.blocks.items) k rest

module _ (New Old : Worker → Type 0) where
  pub changing-none : (from to : ℕ) (workers : List Worker) → AreSide Old from to workers → AreChanging New Old 0 from to workers
  changing-none from to [] h = h
  changing-none from to (one ∷ rest) h = (h.0, h.1, changing-none (from + length one.tile.blocks.items) to rest h.2)

  pub changing-done : (k from to : ℕ) (workers : List Worker) → length workers ≤ k → AreChanging New Old k from to workers → AreSide New from to workers
  changing-done k from to [] all h = h
  changing-done zero from to (one ∷ rest) all h = absurd (omega (arith, all))
  changing-done (suc k) from to (one ∷ rest) all h = (h.0, h.1, changing-done k (from + length one.tile.blocks.items) to rest (omega (arith, all)) h.2)

  pub reach-done : (k from to : ℕ) (workers : List Worker) → length workers ≤ k → AreChanging New Old k from to workers → reach from k workers ≡ to
  reach-done zero from to [] all h = h
  reach-done (suc k) from to [] all h = h
  reach-done zero from to (one ∷ rest) all h = absurd (omega (arith, all))
  reach-done (suc k) from to (one ∷ rest) all h = reach-done k (from + length one.tile.blocks.items) to rest (omega (arith, all)) h.2

  -- the next one
  pub changing-at : (k from to : ℕ) (workers : List Worker) (one : Worker) → slice_get workers k ≡ Some one → AreChanging New Old k from to workers → (one.tile.first ≡ reach from k workers) × Old one × (reach from (suc k) workers ≡ one.tile.first + length one.tile.blocks.items)
  changing-at k from to [] one e h = cc e
  changing-at zero from to (first ∷ rest) one e h =
      let same : first ≡ one = cc e in (
        ap (λ (w : Worker). w.tile.first) (sym same) ∙ h.0,
        subst Old same h.1,
        ap (λ n. n + length first.tile.blocks.items) (sym h.0) ∙ ap (λ (w : Worker). w.tile.first + length w.tile.blocks.items) same,
      )
  changing-at (suc k) from to (first ∷ rest) one e h = changing-at k (from + length first.tile.blocks.items) to rest one e h.2

  pub changing-next : (k from to : ℕ) (workers : List Worker) (one now : Worker) → slice_get workers k ≡ Some one → now.tile ≡ one.tile → New now → AreChanging New Old k from to workers → AreChanging New Old (suc k) from to (write workers k now)
  changing-next k from to [] one now e same is h = cc e
  changing-next zero from to (first ∷ rest) one now e same is h =
      let here : first ≡ one = cc e in
      let tile : now.tile ≡ first.tile = same ∙ sym (ap (λ (w : Worker). w.tile) here) in (
        ap (λ t. t.first) tile ∙ h.0,
        is,
        subst (λ t. AreChanging New Old zero (from + length t.blocks.items) to rest) (sym tile) h.2,
      )
  changing-next (suc k) from to (first ∷ rest) one now e same is h = (h.0, h.1, changing-next k (from + length first.tile.blocks.items) to rest one now e same is h.2)

  pub reach-next : (k from to : ℕ) (workers : List Worker) (one now : Worker) → slice_get workers k ≡ Some one → now.tile ≡ one.tile → AreChanging New Old k from to workers → reach from (suc k) (write workers k now) ≡ one.tile.first + length one.tile.blocks.items
  reach-next k from to [] one now e same h = cc e
  reach-next zero from to (first ∷ rest) one now e same h =
      let here : first ≡ one = cc e in
      ap₂ (λ n (t : Tile). n + length t.blocks.items) (sym h.0 ∙ ap (λ (w : Worker). w.tile.first) here) same
  reach-next (suc k) from to (first ∷ rest) one now e same h = reach-next k (from + length first.tile.blocks.items) to rest one now e same h.2
