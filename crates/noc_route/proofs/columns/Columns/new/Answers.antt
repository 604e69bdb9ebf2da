use Rattle.std.proofs.Common.{◌≡◌, ℕ, ◌*◌, List, length, arith, ap, subst, sym, ◌∙◌}
use Rattle.noc_topo.specs.Shape.{nodes}
use Rattle.noc_topo.proofs.ListLemmas.{length-tabulate}
use Rattle.noc_route.specs.Columns.{table_of, AreColumns}
use Rattle.noc_route.specs.Entered.{sets_in}
use Rattle.noc_route.specs.Routes.{width}
use Rattle.noc_route.specs.Trimming.{left_in}
use Rattle.noc_route.proofs.ColumnLemmas.{all-within, all-written, table-kept, width-some}
use Rattle.std.proofs.Math.Nat.{mul-le-mul_right}
use Rattle.noc_route.proofs.columns.Columns.new.Goals as goal

pub invariant_of-columns : goal.invariant_of-columns
invariant_of-columns c =
    let f = c.args.leaving.now.map.now.sizes in
    let table = left_in f (sets_in f c.args.entered.now) c.args.leaving.now.outs.now in
    let starts = c.keep_all-kept.new.starts in
    let sets = c.in_ok-sets.sets in
    let long : length starts ≡ c.in_ok-starts.starts.len = omega (arith, c.keep_all-kept.auto.starts, c.deref_mut-3.ensures.len) in
    let size : length starts ≡ nodes f.shape * f.classes * width f.shape f.vcs = long ∙ c.in_ok-starts.ensures.len ∙ c.columns.ensures.value in
    let all : AreColumns f starts sets.len = record { long = size; within = all-within f table sets.items starts sets.len (width-some f) c.in_ok-sets.ensures.kept } in
    let list = c.in_ok-of.field-0 in
    let many : sets.len ≡ length list = omega (arith, ap (λ (xs : List ℕ). length xs) c.in_ok-of.ensures, sets.ok.0) in
    record { all = subst (λ (xs : List ℕ). AreColumns f xs (length list)) (sym (all-written starts c.in_ok-starts.starts.items c.in_ok-starts.starts.len long)) (subst (λ m. AreColumns f starts m) many all) }

pub returns-clause-table : goal.returns-clause-table
returns-clause-table c =
    let f = c.args.leaving.now.map.now.sizes in
    let table = left_in f (sets_in f c.args.entered.now) c.args.leaving.now.outs.now in
    let starts = c.keep_all-kept.new.starts in
    let sets = c.in_ok-sets.sets in
    let long : length starts ≡ c.in_ok-starts.starts.len = omega (arith, c.keep_all-kept.auto.starts, c.deref_mut-3.ensures.len) in
    ap (λ (xs : List ℕ). table_of f c.in_ok-of.field-0 xs) (all-written starts c.in_ok-starts.starts.items c.in_ok-starts.starts.len long)
    ∙ ap (λ (xs : List ℕ). table_of f xs starts) c.in_ok-of.ensures
    ∙ table-kept f table sets.items starts sets.len (omega (arith, f.all_nodes, f.some_nodes)) (width-some f) (length-tabulate _ _) c.in_ok-sets.ensures.kept

pub returns-clause-first : goal.returns-clause-first
returns-clause-first c = c.in_ok-sets.ensures.first

pub overflow_mul-sizes : goal.overflow_mul-sizes
overflow_mul-sizes c = omega (arith, mul-le-mul_right c.width.result c.args.leaving.now.map.now.sizes.few_nodes, c.width.ensures.few)

pub keep_all-kept-requires-clause-all : goal.keep_all-kept-requires-clause-all
keep_all-kept-requires-clause-all c = c.requires

pub keep_all-kept-requires-clause-coming : goal.keep_all-kept-requires-clause-coming
keep_all-kept-requires-clause-coming c = c.deref_mut.ensures.len ∙ c.in_ok-coming.ensures.len ∙ c.args.leaving.now.map.now.sizes.all_nodes

pub keep_all-kept-requires-clause-block : goal.keep_all-kept-requires-clause-block
keep_all-kept-requires-clause-block c =
    let f = c.args.leaving.now.map.now.sizes in
    c.deref_mut-2.ensures.len ∙ c.in_ok-block.ensures.len ∙ ap (λ n. n * c.width.result) f.all_nodes ∙ ap (λ w. nodes f.shape * w) c.width.ensures.value

pub keep_all-kept-requires-clause-starts : goal.keep_all-kept-requires-clause-starts
keep_all-kept-requires-clause-starts c = c.deref_mut-3.ensures.len ∙ c.in_ok-starts.ensures.len ∙ c.columns.ensures.value
