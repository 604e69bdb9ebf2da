use Rattle.std.proofs.Common.{rules, arith, ◌≡◌, ◌<◌, List, map, length, get_or, set, ap, sym, ◌∙◌, subst, refl}
use Rattle.std.proofs.lemmas.List.{length-map, get_or-set_other, map-set, set-get_or}
use Rattle.noc_tiles.specs.Ends.{End, inlet, outlet}
use Rattle.noc_tiles.specs.declared.ends.Outlet.{Outlet}
use Rattle.noc_tiles.proofs.EndsLemmas.{empties-more, view-rest, view-at, length-views, meets, leaves}
use Rattle.noc_tiles.proofs.partition.empty_all.Goals as goal
use Rattle.noc_tiles.proofs.partition.empty_all.Goals.{After-index_mut, After-one-item}

-- there is an inlet with the index of this turn
within : (c : After-one-item) → c.loop-one.one-index < length (map inlet c.args.ins.now.items)
within c = rw length-map (search rules)

-- it is as it was at the start
inlet-is : (c : After-one-item) (e : End) → get_or (map inlet c.args.ins.now.items) c.loop-one.one-index e ≡ inlet (get_or c.loop-one.one-items c.loop-one.one-index c.one-item.result)
inlet-is c e =
    let l : c.loop-one.one-index < length c.args.ins.now.items = search rules in
    view-rest inlet c.loop-one.one-items c.deref_mut-one-items.result.now c.args.ins.now.items c.loop-one.one-index c.one-item.result e c.deref_mut-one-items.ensures.value (c.loop-one.invariant.rest c.loop-one.one-index c.one-item.result (omega arith)) l

-- its place is a link port of a router
placed : (c : After-one-item) → ((get_or c.loop-one.one-items c.loop-one.one-index c.one-item.result).router < length c.args.beats.now) × ((get_or c.loop-one.one-items c.loop-one.one-index c.one-item.result).port < 6)
placed c =
    let v = inlet (get_or c.loop-one.one-items c.loop-one.one-index c.one-item.result) in
    let P : End → Type 0 = λ q. (q.at.0 < length c.args.beats.now) × (q.at.1 < 6) in
    subst P (inlet-is c v) (c.requires.placed c.loop-one.one-index v (within c))

-- the outlet that was found is as it was at the start
outlet-is : (c : After-index_mut) (e : End) → get_or (map outlet c.args.outs.now.items) c.find_outlet-o.result e ≡ outlet c.index_mut.result.now
outlet-is c e =
    let l : c.find_outlet-o.result < length c.loop-one.outs.items = let h = c.find_outlet-o.ensures.within in search (rules, arith) in
    view-at outlet c.loop-one.outs.items c.args.outs.now.items c.find_outlet-o.result c.index_mut.result.now e c.loop-one.invariant.outs l ∙ ap outlet (sym c.index_mut.ensures.value)

-- there is an outlet with its index
found : (c : After-index_mut) → c.find_outlet-o.result < length (map outlet c.args.outs.now.items)
found c =
    let l : c.find_outlet-o.result < length c.loop-one.outs.items = let h = c.find_outlet-o.ensures.within in search (rules, arith) in
    let n = length-views outlet c.loop-one.outs.items c.args.outs.now.items c.loop-one.invariant.outs in
    rw length-map (omega arith)

-- it has the place of the inlet
same-place : (c : After-index_mut) → (outlet c.index_mut.result.now).at ≡ (inlet (get_or c.loop-one.one-items c.loop-one.one-index c.one-item.result)).at
same-place c =
    ap (λ (q : Outlet). (outlet q).at) c.index_mut.ensures.value
    ∙ ap (λ (outs : List Outlet). (outlet (get_or outs c.find_outlet-o.result c.index_mut.result.now)).at) (sym c.deref.ensures.value)
    ∙ c.find_outlet-o.ensures.at c.index_mut.result.now

pub find_outlet-o-requires : goal.find_outlet-o-requires
find_outlet-o-requires c =
    let turn = (goal.at.find_outlet-o-requires c).After-one-item in
    let n = length-views outlet c.loop-one.outs.items c.args.outs.now.items c.loop-one.invariant.outs in
    let f = c.requires.found c.loop-one.one-index (within turn) in
    let m : f.0 < length c.args.outs.now.items = rw length-map at f.1 in
    let ol : f.0 < length c.loop-one.outs.items = omega arith in (
      f.0,
      search (rules, arith),
      λ (d : Outlet).
          let w = view-at outlet c.loop-one.outs.items c.args.outs.now.items f.0 d (outlet d) c.loop-one.invariant.outs ol in
          ap (λ (outs : List Outlet). (outlet (get_or outs f.0 d)).at) c.deref.ensures.value ∙ ap (λ (q : End). q.at) (sym w) ∙ (f.2 (outlet d) ∙ ap (λ (q : End). q.at) (inlet-is turn (outlet d))),
    )

pub empty_ring-beat-requires : goal.empty_ring-beat-requires
empty_ring-beat-requires c =
    let at = goal.at.empty_ring-beat-requires c in
    let w = outlet c.index_mut.result.now in
    meets (length c.args.beats.now) (map inlet c.args.ins.now.items) (map outlet c.args.outs.now.items) c.requires c.loop-one.one-index c.find_outlet-o.result (inlet (get_or c.loop-one.one-items c.loop-one.one-index c.one-item.result)) w
    (within at.After-one-item) (found at.After-index_mut) (inlet-is at.After-one-item w) (outlet-is at.After-index_mut w) (same-place at.After-index_mut)

pub set_beat-requires : goal.set_beat-requires
set_beat-requires c =
    let p = placed (goal.at.set_beat-requires c).After-one-item in
    (omega (arith, p.0, c.loop-one.invariant.done.same), p.1)

pub loop-one-preserved : goal.loop-one-preserved
loop-one-preserved c =
    let i = c.loop-one.one-index in
    let x = c.one-item.result in
    let one = get_or c.loop-one.one-items i x in
    let v = inlet one in
    let O = map outlet c.args.outs.now.items in
    let at = (goal.at.loop-one-preserved c).After-index_mut in
    let o = c.find_outlet-o.result in
    let y = c.index_mut.result.now in
    let items0 = c.deref_mut-one-items.result.now in
    let I0 = map inlet items0 in
    let e : (d : End) → get_or I0 i d ≡ v = λ d. view-rest inlet c.loop-one.one-items items0 items0 i x d refl (c.loop-one.invariant.rest i x (omega arith)) (search rules) in
    let left = leaves I0 O i o c.empty_ring-beat.result v (outlet y) (found at) e (outlet-is at) (same-place at) c.empty_ring-beat.ensures.fifo in
    record {
      outs = map-set outlet c.loop-one.outs.items o c.empty_ring-beat.new.o
          ∙ (ap (λ q. set (map outlet c.loop-one.outs.items) o q) (c.empty_ring-beat.ensures.outlet ∙ sym (outlet-is at (outlet y)))
          ∙ (ap (λ q. set q o (get_or O o (outlet y))) c.loop-one.invariant.outs ∙ set-get_or O o (outlet y)));
      rest = λ j d h. let ne : j ≡ i → ⊥ = λ q. absurd (omega arith) in get_or-set_other c.loop-one.one-items i j c.empty_ring-beat.new.i d ne ∙ c.loop-one.invariant.rest j d (omega arith);
      done = empties-more I0 O i c.args.beats.now c.loop-one.beats c.set_beat.new.beats one.router one.port c.empty_ring-beat.result (λ d. ap (λ (q : End). q.at) (e d)) c.set_beat.auto.beats c.set_beat.ensures left c.loop-one.invariant.done;
    }
