use Rattle.std.proofs.Common.{◌≡◌, ◌+◌, ◌*◌, ◌<◌, ◌≤◌, ◌∙◌, ℕ, List, get_or, subst, sym, ap, arith, length, set, refl}
use Rattle.std.specs.Prelude.{◌⊎◌, if◌then◌else◌}
use Rattle.std.proofs.Math.Nat.{mul_comm}
use Rattle.noc_packet.specs.Set.{has_bit}
use Rattle.noc_topo.specs.Shape.{nodes}
use Rattle.noc_route.specs.Entered.{AreAll, sets_in}
use Rattle.noc_route.specs.Routes.{width, pages}
use Rattle.noc_route.specs.Trimming.{routes_in, page_set, reached_at}
use Rattle.noc_route.specs.declared.entered.Entered.{Entered}
use Rattle.noc_route.proofs.EntryLemmas.{flat-below}
use Rattle.noc_route.proofs.EnterLemmas.{page_set-pages}
use Rattle.noc_route.proofs.ColumnLemmas.{row-end, block-below, page-in, column-in, width-in}
use Rattle.std.proofs.lemmas.List.{get_or_default}
use Rattle.noc_steps.proofs.WrittenLemmas.{StandsTo, LeavesOthers, written-more, others-more}
use Rattle.noc_route.proofs.trim.trim_column.Goals as goal

pub take_row-requires-clause-sets : goal.take_row-requires-clause-sets
take_row-requires-clause-sets c =
    let f = c.args.sizes.now in
    let n = nodes f.shape in
    let A : Entered → Type 0 = λ e. AreAll f e in
    let all : c.in-OfPages.sets.len ≡ pages f.shape f.classes = subst A c.in-OfPages.is c.requires.all in
    let room = row-end c.args.pair (n * f.classes) n c.requires.pair in
    let first = ap (λ m. c.args.pair * m) f.all_nodes in
    omega (arith, room, first, all, c.requires.coming, c.deref.ensures.len)

pub take_row-requires-clause-block : goal.take_row-requires-clause-block
take_row-requires-clause-block c =
    let f = c.args.sizes.now in
    let n = nodes f.shape in
    let w = width f.shape f.vcs in
    let room = row-end c.args.input w n c.requires.input in
    let from = ap (λ m. c.args.input * m) f.all_nodes in
    omega (arith, room, from, mul_comm w n, c.requires.coming, c.requires.block)

pub returns-in-OfPages-clause-column : goal.returns-in-OfPages-clause-column
returns-in-OfPages-clause-column c = λ t l.
    let f = c.args.sizes.now in
    let n = nodes f.shape in
    let w = width f.shape f.vcs in
    let input = c.args.input in
    let pair = c.args.pair in
    let coming = c.args.coming.now in
    let sets = c.in-OfPages.sets.items in
    let page : pair * n + t < pages f.shape f.classes = flat-below pair (n * f.classes) t n c.requires.pair l in
    ap (λ m. get_or c.take_row.new.block (input * m + t) 0) (sym f.all_nodes)
    ∙ c.take_row.ensures.column t (omega (arith, l, c.requires.coming))
    ∙ ap (λ (xs : List ℕ). if has_bit (get_or coming t 0) input then get_or xs (pair * f.node_count + t) 0 else 0) c.deref.ensures.value
    ∙ ap (λ m. if has_bit (get_or coming t 0) input then get_or sets (pair * m + t) 0 else 0) f.all_nodes
    ∙ ap (λ s. if has_bit (get_or coming t 0) input then s else 0)
    (sym (ap (λ e. page_set (routes_in f (sets_in f e)) (pair * n + t) input) c.in-OfPages.is ∙ page_set-pages f sets (pair * n + t) input page c.requires.input))

pub returns-in-OfPages-clause-others : goal.returns-in-OfPages-clause-others
returns-in-OfPages-clause-others c = λ j outside.
    let f = c.args.sizes.now in
    let P : ℕ → Type 0 = λ m. (j < c.args.input * m) ⊎ (c.args.input * m + m ≤ j) in
    let Q : ℕ → Type 0 = λ m. (j < c.args.input * f.node_count) ⊎ (c.args.input * f.node_count + m ≤ j) in
    c.take_row.ensures.others j (subst Q (f.all_nodes ∙ sym c.requires.coming) (subst P (sym f.all_nodes) outside))

pub set-set-requires-clause-page : goal.set-set-requires-clause-page
set-set-requires-clause-page c =
    let f = c.args.sizes.now in
    let there : c.loop-dst.dst < nodes f.shape = omega (arith, c.loop-dst-test.true, f.all_nodes) in
    subst (λ n. c.args.pair * n + c.loop-dst.dst < pages f.shape f.classes) (sym f.all_nodes) (flat-below c.args.pair (nodes f.shape * f.classes) c.loop-dst.dst (nodes f.shape) c.requires.pair there)

pub bounds-block-input : goal.bounds-block-input
bounds-block-input c =
    let f = c.args.sizes.now in
    block-below c.loop-dst.block c.loop-dst.dst c.args.input f.node_count (nodes f.shape) (width f.shape f.vcs) f.all_nodes (c.loop-dst.auto.block ∙ c.requires.block) c.requires.input c.loop-dst-test.true

pub loop-dst-preserved : goal.loop-dst-preserved
loop-dst-preserved c =
    let f = c.args.sizes.now in
    let sets = sets_in f c.args.entered.now in
    let coming = c.args.coming.now in
    let pair = c.args.pair in
    let input = c.args.input in
    let dst = c.loop-dst.dst in
    let n = nodes f.shape in
    let want = reached_at f sets coming pair input in
    let here : dst < n = omega (arith, c.loop-dst-test.true, f.all_nodes) in
    let there : input * n + dst < length c.loop-dst.block = block-below c.loop-dst.block dst input n n (width f.shape f.vcs) refl (c.loop-dst.auto.block ∙ c.requires.block) c.requires.input here in
    let come : c.contains-is_reached.result ≡ has_bit (get_or coming dst 0) input
    = c.contains-is_reached.ensures ∙ ap (λ s. has_bit s input) (c.index-coming-dst.is ∙ get_or_default coming dst c.index-coming-dst.result 0 (omega (arith, here, c.requires.coming))) in
    let is : c.only_if.result ≡ want dst
    = c.only_if.ensures ∙ ap (λ b. if b then c.set-set.result else 0) come
    ∙ ap (λ s. if has_bit (get_or coming dst 0) input then s else 0) (c.set-set.ensures ∙ ap (λ n. page_set (routes_in f sets) (pair * n + dst) input) f.all_nodes) in
    let P : ℕ → Type 0 = λ m. StandsTo want (set c.loop-dst.block (input * m + dst) c.only_if.result) (input * n) (dst + 1) in
    let Q : ℕ → Type 0 = λ m. LeavesOthers c.args.block.now (set c.loop-dst.block (input * m + dst) c.only_if.result) (input * n) (dst + 1) in
    record {
      column = subst P (sym f.all_nodes) (written-more want c.loop-dst.block (input * n) dst c.only_if.result there is c.loop-dst.invariant.column);
      others = subst Q (sym f.all_nodes) (others-more c.args.block.now c.loop-dst.block (input * n) dst c.only_if.result c.loop-dst.invariant.others);
    }

pub take_row-requires-clause-input : goal.take_row-requires-clause-input
take_row-requires-clause-input c = omega (arith, c.requires.input, width-in c.args.sizes.now)

pub set-set-requires-clause-all : goal.set-set-requires-clause-all
set-set-requires-clause-all c = c.requires.all

pub set-set-requires-clause-input : goal.set-set-requires-clause-input
set-set-requires-clause-input c = c.requires.input

pub overflow_mul-pair : goal.overflow_mul-pair
overflow_mul-pair c =
    let f = c.args.sizes.now in
    omega (arith, page-in f c.args.pair 0 c.requires.pair (omega (arith, f.some_nodes)))

pub overflow_mul-input : goal.overflow_mul-input
overflow_mul-input c =
    let f = c.args.sizes.now in
    omega (arith, column-in f c.args.input 0 c.requires.input (omega (arith, f.some_nodes)))

pub overflow_mul-pair-in-loop-dst : goal.overflow_mul-pair-in-loop-dst
overflow_mul-pair-in-loop-dst c = omega (arith, page-in c.args.sizes.now c.args.pair c.loop-dst.dst c.requires.pair c.loop-dst-test.true)

pub overflow_add-pair : goal.overflow_add-pair
overflow_add-pair c = omega (arith, page-in c.args.sizes.now c.args.pair c.loop-dst.dst c.requires.pair c.loop-dst-test.true)

pub overflow_mul-input-in-loop-dst : goal.overflow_mul-input-in-loop-dst
overflow_mul-input-in-loop-dst c = omega (arith, column-in c.args.sizes.now c.args.input c.loop-dst.dst c.requires.input c.loop-dst-test.true)

pub overflow_add-input : goal.overflow_add-input
overflow_add-input c = omega (arith, column-in c.args.sizes.now c.args.input c.loop-dst.dst c.requires.input c.loop-dst-test.true)

pub bounds-coming-dst : goal.bounds-coming-dst
bounds-coming-dst c = omega (arith, c.loop-dst-test.true, c.args.sizes.now.all_nodes, c.requires.coming)

pub offset_bounds-coming-dst : goal.offset_bounds-coming-dst
offset_bounds-coming-dst c = omega (arith, c.loop-dst-test.true, c.args.sizes.now.few_nodes)

pub offset_bounds-block-input : goal.offset_bounds-block-input
offset_bounds-block-input c = omega (arith, column-in c.args.sizes.now c.args.input c.loop-dst.dst c.requires.input c.loop-dst-test.true)

pub loop-dst-init : goal.loop-dst-init
loop-dst-init c = record { column = λ t l. absurd (omega (arith, l)); others = λ j _. refl }

pub returns-clause-column : goal.returns-clause-column
returns-clause-column c = λ t l. c.loop-dst.invariant.column t (omega (arith, l, c.loop-dst-test.false, c.args.sizes.now.all_nodes))

pub returns-clause-others : goal.returns-clause-others
returns-clause-others c = λ j outside.
    let from = c.args.input * nodes c.args.sizes.now.shape in
    let last : nodes c.args.sizes.now.shape ≡ c.loop-dst.dst = omega (arith, c.loop-dst-test.false, c.loop-dst.auto.dst-end, c.args.sizes.now.all_nodes) in
    c.loop-dst.invariant.others j (subst (λ m. (j < from) ⊎ (from + m ≤ j)) last outside)
