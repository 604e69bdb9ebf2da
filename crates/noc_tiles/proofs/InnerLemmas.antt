-- The inner routers of a tile, from one wire that leaves it to the next.
use Rattle.std.proofs.Common.{◌≡◌, ◌⊎◌, inl, inr, ℕ, ◌+◌, ◌-◌, ◌<◌, ◌≤◌, ◌/◌, false, List, get_or, Option, Some, None, refl, ⊎_elim, subst, arith, below_more}
use Rattle.noc_topo.specs.Shape.{Grid, neighbour}
use Rattle.noc_tiles.specs.Phases.{AreInner}
use Rattle.noc_tiles.specs.TileStep.{is_from}
use Rattle.noc_tiles.specs.declared.tile.Inner.{Inner}
use Rattle.noc_tiles.proofs.SentLemmas.{own-false, own-outside}

-- no router of these is the sender
abbrev pub IsOutside : ℕ → Inner → Option (ℕ × ℕ) → Type 0
IsOutside first inner from = is_from (first + inner.from) (inner.to - inner.from) from ≡ false

-- of the first k wires none begins at an inner router
pub record AreInnerTo (grid : Grid) (first count : ℕ) (outs : List (ℕ × ℕ)) (k : ℕ) (inner : Inner) : Type 0 where
  pub from : inner.from ≤ count / 2
  pub to : count / 2 ≤ inner.to
  pub within : inner.to ≤ count
  pub none : (o : ℕ) → o < k → IsOutside first inner (neighbour grid (get_or outs o (0, 0)).0 (get_or outs o (0, 0)).1)

pub outside-same : (first : ℕ) (inner : Inner) (node p : ℕ) → inner.from ≤ inner.to → (node < first + inner.from) ⊎ (first + inner.to ≤ node) → IsOutside first inner (Some (node, p))
outside-same first inner node p l h =
    own-false (first + inner.from) (inner.to - inner.from) node (⊎_elim (λ (x : node < first + inner.from). inl x) (λ (y : first + inner.to ≤ node). inr (omega arith)) h)

pub outside-fewer : (first : ℕ) (old new : Inner) (from : Option (ℕ × ℕ)) → old.from ≤ new.from → new.from ≤ new.to → new.to ≤ old.to → IsOutside first old from → IsOutside first new from
outside-fewer first old new None l m n h = refl
outside-fewer first old new (Some (node, p)) l m n h =
    outside-same first new node p m
    (⊎_elim (λ (x : node < first + old.from). inl (omega arith)) (λ (y : (first + old.from) + (old.to - old.from) ≤ node). inr (omega arith)) (own-outside (first + old.from) (old.to - old.from) node h))

pub inner-more : (grid : Grid) (first count : ℕ) (outs : List (ℕ × ℕ)) (k : ℕ) (old new : Inner) → AreInnerTo grid first count outs k old
    → old.from ≤ new.from → new.from ≤ count / 2 → count / 2 ≤ new.to → new.to ≤ old.to → IsOutside first new (neighbour grid (get_or outs k (0, 0)).0 (get_or outs k (0, 0)).1)
    → AreInnerTo grid first count outs (k + 1) new
inner-more grid first count outs k old new so_far l m m' n here = record {
  from = m;
  to = m';
  within = omega (arith, n, so_far.within);
  none = below_more (λ o. IsOutside first new (neighbour grid (get_or outs o (0, 0)).0 (get_or outs o (0, 0)).1)) k
      (λ o h. outside-fewer first old new (neighbour grid (get_or outs o (0, 0)).0 (get_or outs o (0, 0)).1) l (omega (arith, m, m')) n (so_far.none o h)) here;
}

pub inner-same : (grid : Grid) (first first' count count' : ℕ) (outs outs' : List (ℕ × ℕ)) (inner : Inner) → first ≡ first' → count ≡ count' → outs ≡ outs' → AreInner grid first count outs inner → AreInner grid first' count' outs' inner
inner-same grid first first' count count' outs outs' inner p q r h =
    let A : ℕ → Type 0 = λ z. AreInner grid z count outs inner in
    let B : ℕ → Type 0 = λ z. AreInner grid first' z outs inner in
    let C : List (ℕ × ℕ) → Type 0 = λ z. AreInner grid first' count' z inner in
    subst C r (subst B q (subst A p h))
