use Rattle.std.proofs.Common.{◌≡◌, ◌≢◌, ◌<◌, ◌≤◌, ◌+◌, ℕ, inl, inr, Option, Some, None, length, map, get_or, ap, sym, ◌∙◌, refl, arith, rules, subst, ⊎_elim}
use Rattle.std.proofs.lemmas.Bool.{cases_lt}
use Rattle.std.proofs.lemmas.List.{length-map}
use Rattle.noc_topo.specs.Shape.{Grid, local_port, neighbour, nodes}
use Rattle.noc_tiles.specs.Ends.{End, outlet}
use Rattle.noc_tiles.specs.TileStep.{arrival_ports}
use Rattle.noc_tiles.specs.declared.ends.Outlet.{Outlet}
use Rattle.noc_tiles.specs.declared.tile.Inner.{Inner}
use Rattle.noc_tiles.proofs.ClearLemmas.{place-of}
use Rattle.noc_tiles.proofs.InnerLemmas.{AreInnerTo, IsOutside, inner-more, outside-same}
use Rattle.noc_tiles.proofs.tile.inner_of.Goals as goal
use Rattle.noc_tiles.proofs.tile.inner_of.Goals.{in-Some+then-sender-count, in-Some+else-sender-count, in_default}

pub neighbour-requires-clause-node : goal.neighbour-requires-clause-node
neighbour-requires-clause-node c =
    let os = c.args.outs.now in
    let l : c.loop-end.end-index < length os = search (rules, arith) in
    let at = place-of outlet os c.loop-end.end-index c.end-item.result (0, 0) l ∙ ap (λ (o : Outlet). (outlet o).at) (sym c.end-item.is) in
    let w = c.requires c.loop-end.end-index (rw (length-map, length-map) l) in
    omega (arith, w.0, ap (λ (p : ℕ × ℕ). p.0) at, ap nodes c.shape-shape.ensures.value)

pub neighbour-requires-clause-port : goal.neighbour-requires-clause-port
neighbour-requires-clause-port c =
    let os = c.args.outs.now in
    let l : c.loop-end.end-index < length os = search (rules, arith) in
    let at = place-of outlet os c.loop-end.end-index c.end-item.result (0, 0) l ∙ ap (λ (o : Outlet). (outlet o).at) (sym c.end-item.is) in
    let w = c.requires c.loop-end.end-index (rw (length-map, length-map) l) in
    omega (arith, w.1, ap (λ (p : ℕ × ℕ). p.1) at, ap local_port c.shape-shape.ensures.value)

pub loop-end-init : goal.loop-end-init
loop-end-init c = record { from = omega arith; to = omega arith; within = omega arith; none = λ o l. absurd (omega arith) }

pub loop-end-preserved : goal.loop-end-preserved
loop-end-preserved c =
    let grid = c.args.relation.now.grid in
    let os = c.args.outs.now in
    let ps = arrival_ports (map outlet os) in
    let k = c.loop-end.end-index in
    let v = c.loop-end.invariant in
    let old = c.loop-end.inner in
    let l : k < length os = search (rules, arith) in
    let at : get_or ps k (0, 0) ≡ (c.end-item.result.router, c.end-item.result.port) = place-of outlet os k c.end-item.result (0, 0) l ∙ ap (λ (o : Outlet). (outlet o).at) (sym c.end-item.is) in
    let from : neighbour grid (get_or ps k (0, 0)).0 (get_or ps k (0, 0)).1 ≡ c.neighbour.result =
    ap (λ (p : ℕ × ℕ). neighbour grid p.0 p.1) at ∙ ap (λ (g : Grid). neighbour g c.end-item.result.router c.end-item.result.port) (sym c.shape-shape.ensures.value) ∙ sym c.neighbour.ensures.value in
    elim c.match-neighbour.branch [
      | in-Some+then-sender-count w ↦
          (let new : Inner = record { from = w.max.result; to = old.to } in
          let here : IsOutside c.args.first new (Some (w.in-Some.node, w.in-Some.field-0-1)) =
          outside-same c.args.first new w.in-Some.node w.in-Some.field-0-1 (omega (arith, w.max.ensures, w.if-sender-count.true, v.to, v.from)) (inl (omega (arith, w.max.ensures, w.saturating_sub-sender.ensures))) in
          subst (AreInnerTo grid c.args.first c.args.count ps (k + 1)) (sym w.inner-is)
          (inner-more grid c.args.first c.args.count ps k old new v (omega (arith, w.max.ensures)) (omega (arith, w.max.ensures, w.if-sender-count.true, v.from)) v.to (omega arith)
          (subst (IsOutside c.args.first new) (sym (from ∙ w.in-Some.is)) here)))
      | in-Some+else-sender-count w ↦
          (let new : Inner = record { from = old.from; to = w.min.result } in
          let order : old.from ≤ w.min.result = omega (arith, w.min.ensures, w.if-sender-count.false, v.to, v.from) in
          let here : IsOutside c.args.first new (Some (w.in-Some.node, w.in-Some.field-0-1)) =
          outside-same c.args.first new w.in-Some.node w.in-Some.field-0-1 order
          (⊎_elim (λ (x : w.in-Some.node < c.args.first). inl (omega arith)) (λ (y : c.args.first ≤ w.in-Some.node). inr (omega (arith, w.min.ensures, w.saturating_sub-sender.ensures))) (cases_lt w.in-Some.node c.args.first)) in
          subst (AreInnerTo grid c.args.first c.args.count ps (k + 1)) (sym w.inner-is)
          (inner-more grid c.args.first c.args.count ps k old new v (omega arith) v.from (omega (arith, w.min.ensures, w.if-sender-count.false, v.to)) (omega (arith, w.min.ensures))
          (subst (IsOutside c.args.first new) (sym (from ∙ w.in-Some.is)) here)))
      | in_default w ↦
          (subst (AreInnerTo grid c.args.first c.args.count ps (k + 1)) (sym w.inner-is)
          (inner-more grid c.args.first c.args.count ps k old old v (omega arith) v.from v.to (omega arith)
          (subst (IsOutside c.args.first old) (sym (from ∙ none c.neighbour.result w.in_default.not-Some)) refl)))
    ]
  where
    none : (o : Option (ℕ × ℕ)) → ((x : ℕ × ℕ) → o ≢ Some x) → o ≡ None
    none None never = refl
    none (Some x) never = absurd (never x refl)

pub returns : goal.returns
returns c =
    let v = c.loop-end.invariant in
    let end : c.loop-end.end-index ≡ length c.args.outs.now = search (rules, arith) in
    let all : c.loop-end.end-index ≡ length (arrival_ports (map outlet c.args.outs.now)) = end ∙ sym (length-map (map outlet c.args.outs.now) (λ (w : End). w.at) ∙ length-map c.args.outs.now outlet) in
    record { order = omega (arith, v.from, v.to); within = v.within; none = λ o l. v.none o (omega (arith, all, l)) }
