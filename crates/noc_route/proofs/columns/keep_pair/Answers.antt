use Rattle.std.proofs.Common.{◌≡◌, ◌+◌, ◌*◌, ◌<◌, ◌≤◌, ◌∙◌, ℕ, length, get_or, set, refl, arith, subst, sym}
use Rattle.std.specs.Prelude.{◌⊎◌}
use Rattle.noc_topo.specs.Shape.{nodes}
use Rattle.noc_route.specs.Columns.{AreKeptTo}
use Rattle.noc_route.specs.Routes.{width}
use Rattle.noc_route.proofs.EntryLemmas.{flat-below}
use Rattle.noc_route.proofs.ColumnLemmas.{IsColumnAt-stands, block-row, column-below, column_of, column-room, kept-more, length-column_of, table-few, column-in}
use Rattle.noc_route.proofs.columns.keep_pair.Goals as goal

pub loop-input-init : goal.loop-input-init
loop-input-init c = record {
  grown = omega arith;
  few = omega arith;
  within = λ i l. absurd (omega arith);
  same = λ i l. absurd (omega arith);
  others = λ j o. refl;
  earlier = λ k l. refl;
}

pub place-start-requires-clause-some : goal.place-start-requires-clause-some
place-start-requires-clause-some c =
    let f = c.args.sizes.now in
    let inside : c.loop-input.input < width f.shape f.vcs = subst (λ x. c.loop-input.input < x) c.width-width.ensures.value c.loop-input-test.true in
    let row = block-row c.args.block.now c.loop-input.input f.node_count (nodes f.shape) (width f.shape f.vcs) f.all_nodes c.requires.block inside in
    omega (arith, length-column_of c.args.block.now f.node_count c.loop-input.input row, f.some_nodes)

pub place-start-requires-clause-room : goal.place-start-requires-clause-room
place-start-requires-clause-room c =
    let f = c.args.sizes.now in
    let w = width f.shape f.vcs in
    let inside : c.loop-input.input < w = subst (λ x. c.loop-input.input < x) c.width-width.ensures.value c.loop-input-test.true in
    let row = block-row c.args.block.now c.loop-input.input f.node_count (nodes f.shape) w f.all_nodes c.requires.block inside in
    let room = column-room c.args.first c.loop-input.end c.loop-input.input w (nodes f.shape) (length c.args.block.now) (length c.args.sets.now) inside c.loop-input.invariant.few c.requires.block c.requires.room in
    omega (arith, room, c.loop-input.auto.sets, length-column_of c.args.block.now f.node_count c.loop-input.input row, f.all_nodes)

pub overflow_cast-starts : goal.overflow_cast-starts
overflow_cast-starts c =
    let f = c.args.sizes.now in
    let w = width f.shape f.vcs in
    let inside : c.loop-input.input < w = subst (λ x. c.loop-input.input < x) c.width-width.ensures.value c.loop-input-test.true in
    let room = column-room c.args.first c.loop-input.end c.loop-input.input w (nodes f.shape) (length c.args.block.now) (length c.args.sets.now) inside c.loop-input.invariant.few c.requires.block c.requires.room in
    omega (arith, room, c.place-start.ensures.start, c.requires.sets, table-few f)

pub overflow_mul-starts : goal.overflow_mul-starts
overflow_mul-starts c =
    let f = c.args.sizes.now in
    let below = column-below f c.args.pair c.loop-input.input c.width-width.result (length c.args.starts.now) c.width-width.ensures.value c.requires.pair c.loop-input-test.true c.requires.starts in
    omega (arith, below, c.loop-input.auto.starts)

pub overflow_add-starts : goal.overflow_add-starts
overflow_add-starts c =
    let f = c.args.sizes.now in
    let below = column-below f c.args.pair c.loop-input.input c.width-width.result (length c.args.starts.now) c.width-width.ensures.value c.requires.pair c.loop-input-test.true c.requires.starts in
    omega (arith, below, c.loop-input.auto.starts)

pub offset_bounds-starts-pair : goal.offset_bounds-starts-pair
offset_bounds-starts-pair c =
    let f = c.args.sizes.now in
    let below = column-below f c.args.pair c.loop-input.input c.width-width.result (length c.args.starts.now) c.width-width.ensures.value c.requires.pair c.loop-input-test.true c.requires.starts in
    omega (arith, below, c.loop-input.auto.starts)

pub bounds-starts-pair : goal.bounds-starts-pair
bounds-starts-pair c =
    let f = c.args.sizes.now in
    let below = column-below f c.args.pair c.loop-input.input c.width-width.result (length c.args.starts.now) c.width-width.ensures.value c.requires.pair c.loop-input-test.true c.requires.starts in
    omega (arith, below, c.loop-input.auto.starts)

pub slice_bounds-place-end : goal.slice_bounds-place-end
slice_bounds-place-end c =
    let f = c.args.sizes.now in
    let w = width f.shape f.vcs in
    let inside : c.loop-input.input < w = subst (λ x. c.loop-input.input < x) c.width-width.ensures.value c.loop-input-test.true in
    omega (arith, block-row c.args.block.now c.loop-input.input f.node_count (nodes f.shape) w f.all_nodes c.requires.block inside)

pub overflow_add-start : goal.overflow_add-start
overflow_add-start c =
    let f = c.args.sizes.now in
    let w = width f.shape f.vcs in
    let inside : c.loop-input.input < w = subst (λ x. c.loop-input.input < x) c.width-width.ensures.value c.loop-input-test.true in
    let room = column-room c.args.first c.loop-input.end c.loop-input.input w (nodes f.shape) (length c.args.block.now) (length c.args.sets.now) inside c.loop-input.invariant.few c.requires.block c.requires.room in
    omega (arith, room, c.place-start.ensures.start, f.all_nodes, c.requires.sets, table-few f)

pub loop-input-preserved : goal.loop-input-preserved
loop-input-preserved c =
    let f = c.args.sizes.now in
    let w = width f.shape f.vcs in
    let start = c.place-start.result in
    let i = c.loop-input.input in
    let next = c.max-end.result in
    let inside : i < w = subst (λ x. i < x) c.width-width.ensures.value c.loop-input-test.true in
    let row = block-row c.args.block.now i f.node_count (nodes f.shape) w f.all_nodes c.requires.block inside in
    let size : length (column_of c.args.block.now f.node_count i) ≡ nodes f.shape = length-column_of c.args.block.now f.node_count i row ∙ f.all_nodes in
    let others : (j : ℕ) → (j < c.loop-input.end) ⊎ (c.loop-input.end + nodes f.shape ≤ j) → get_or c.place-start.new.sets j 0 ≡ get_or c.loop-input.sets j 0
    = λ j outside. c.place-start.ensures.others j (subst (λ n. (j < c.loop-input.end) ⊎ (c.loop-input.end + n ≤ j)) (sym size) outside) in
    let below = flat-below c.args.pair (nodes f.shape * f.classes) i w c.requires.pair inside in
    let there : c.args.pair * w + i < length c.loop-input.starts = omega (arith, below, c.requires.starts, c.loop-input.auto.starts) in
    subst (λ x. AreKeptTo f c.args.block.now c.args.sets.now c.place-start.new.sets c.args.starts.now (set c.loop-input.starts (c.args.pair * x + i) start) c.args.pair c.args.first (i + 1) next) (sym c.width-width.ensures.value)
    (kept-more f c.args.block.now c.args.sets.now c.loop-input.sets c.place-start.new.sets c.args.starts.now c.loop-input.starts c.args.pair c.args.first i c.loop-input.end start next
    c.requires.block inside there c.place-start.ensures.start (omega (arith, c.max-end.ensures)) (omega (arith, c.max-end.ensures, f.all_nodes)) (omega (arith, c.max-end.ensures, f.all_nodes, c.place-start.ensures.start))
    (IsColumnAt-stands f c.args.block.now c.place-start.new.sets f.node_count i start f.all_nodes row c.place-start.ensures.kept) others c.loop-input.invariant)

pub overflow_mul-from : goal.overflow_mul-from
overflow_mul-from c =
    let f = c.args.sizes.now in
    omega (arith, column-in f c.loop-input.input 0 (subst (λ x. c.loop-input.input < x) c.width-width.ensures.value c.loop-input-test.true) (omega (arith, f.some_nodes)))

pub overflow_add-from : goal.overflow_add-from
overflow_add-from c =
    let f = c.args.sizes.now in
    omega (arith, column-in f c.loop-input.input 0 (subst (λ x. c.loop-input.input < x) c.width-width.ensures.value c.loop-input-test.true) (omega (arith, f.some_nodes)), f.few_nodes)

pub offset_bounds-block-from : goal.offset_bounds-block-from
offset_bounds-block-from c =
    let f = c.args.sizes.now in
    omega (arith, column-in f c.loop-input.input 0 (subst (λ x. c.loop-input.input < x) c.width-width.ensures.value c.loop-input-test.true) (omega (arith, f.some_nodes)))

pub place-start-requires-clause-order : goal.place-start-requires-clause-order
place-start-requires-clause-order c = c.loop-input.invariant.grown

pub slice_bounds-place-count : goal.slice_bounds-place-count
slice_bounds-place-count c = omega arith

pub returns : goal.returns
returns c =
    let f = c.args.sizes.now in
    let last : c.loop-input.input ≡ width f.shape f.vcs = omega (arith, c.loop-input-test.false, c.loop-input.auto.input-end, c.width-width.ensures.value) in
    subst (λ i. AreKeptTo f c.args.block.now c.args.sets.now c.loop-input.sets c.args.starts.now c.loop-input.starts c.args.pair c.args.first i c.loop-input.end) last c.loop-input.invariant
