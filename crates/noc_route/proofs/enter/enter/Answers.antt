use Rattle.std.proofs.Common.{◌≡◌, ◌*◌, ◌/◌, ◌%◌, ℕ, List, None, true, subst, sym, ap, ◌∙◌, arith, take_at}
use Rattle.std.specs.Prelude.{◌&&◌, nat_lt, slice_index, All, replicate}
use Rattle.std.proofs.lemmas.Result.{err_from_is_err_and}
use Rattle.noc_topo.specs.Lists.{tabulate}
use Rattle.noc_packet.specs.Set.{has_bit}
use Rattle.noc_route.specs.Entered.{parts_of, routing_in, has_row_at, IsEntered}
use Rattle.noc_route.specs.Relation.{is_real_row, row_fault, table_rows_of, IsFirstFault}
use Rattle.noc_route.specs.Routes.{width, pages, page_class, page_router, page_dst}
use Rattle.noc_route.specs.Trimming.{routes_in}
use Rattle.noc_route.specs.declared.rule.RouteRow.{RouteRow}
use Rattle.noc_route.specs.declared.rule.Rule.{Rule}
use Rattle.noc_route.specs.declared.rule.Rule.TheVariants.{Rows}
use Rattle.noc_route.proofs.ColumnLemmas.{table-few}
use Rattle.noc_route.proofs.EnterLemmas.{All-none, IsEntered-from_pages, leads-named, page_set-pages, rows_of-none}
use Rattle.noc_route.proofs.NoWayLemmas.{IsFaultOf-row}
use Rattle.noc_route.proofs.RowLemmas.{row_fault-none}
use Rattle.noc_route.proofs.enter.enter.Goals as goal

pub returns-in_default : goal.returns-in_default
returns-in_default c =
    let f = c.args.fitting.now.map.now.sizes in
    let g = parts_of c.args.fitting.now in
    let w = width f.shape f.vcs in
    let none = rows_of-none c.args.fitting.now.rule.now c.in_default.not-Rows in
    let table = λ (sets : List ℕ). tabulate (pages f.shape f.classes * w) (λ k. slice_index sets (k / w)) in
    let new = c.enter_named.new.sets in
    let P : List ℕ → Type 0 = λ sets. IsEntered g (routes_in f (table sets)) in
    record {
      err = tt;
      rows = All-none (λ row. row_fault f.shape f.vcs f.classes row ≡ None) c.args.fitting.now.rule.now none;
      all = c.in_ok-sets.ensures.len ∙ c.pages.ensures.value;
      entered = subst P (sym (take_at new _ c.in_ok-sets.sets.len (omega (arith, c.enter_named.auto.sets, c.deref_mut.ensures.len))))
          (IsEntered-from_pages g (routes_in f (table new))
          (λ b i k m l.
          ap (λ s. has_bit s k) (page_set-pages f new b i m l) ∙ c.enter_named.ensures b k m
          ∙ ap (λ x. nat_lt k w && x)
          (sym (leads-named g (page_class f.shape f.classes b) (page_router f.shape f.classes b) (i / f.vcs) (i % f.vcs) (page_dst f.shape b) (k / f.vcs) (k % f.vcs) none))));
    }

pub returns-in-Some-clause-err : goal.returns-in-Some-clause-err
returns-in-Some-clause-err c =
    let f = c.args.fitting.now.map.now.sizes in
    let P : List RouteRow → Type 0 = λ rows. IsFirstFault f.shape f.vcs f.classes rows c.in-Some.fault in
    IsFaultOf-row (parts_of c.args.fitting.now) c.in-Some.fault c.args.fitting.now.right (subst P (c.deref.ensures.value ∙ sym (ap table_rows_of c.in-Rows.is)) c.in-Some.ensures.some)

pub returns-clause-entered : goal.returns-clause-entered
returns-clause-entered c =
    let f = c.args.fitting.now.map.now.sizes in
    let new = c.enter_rows.new.sets in
    let P : Rule → List ℕ → Type 0 = λ rule sets. IsEntered (routing_in f rule) (routes_in f sets) in
    subst (P c.args.fitting.now.rule.now) (sym (take_at new _ c.in_ok-sets-2.sets.len (omega (arith, c.enter_rows.auto.sets, c.deref_mut-2.ensures.len))))
    (subst (λ rule. P rule new) (sym c.in-Rows.is)
    (IsEntered-from_pages (routing_in f (Rows c.in-Rows.rows)) (routes_in f new)
    (λ b i k m l. c.enter_rows.ensures b i k m l ∙ ap (λ rows. nat_lt k (width f.shape f.vcs) && has_row_at (routes_in f new) rows b i k) c.deref-2.ensures.value)))

pub returns-in_err-sets : goal.returns-in_err-sets
returns-in_err-sets c =
    let p = err_from_is_err_and c.from_residual.result c.from_residual.ensures.1 in
    rw (p.1, p.2) (record { err = c.args.fitting.now.right; rows = tt; all = tt; entered = tt })

pub returns-in_err-sets-2-clause-err : goal.returns-in_err-sets-2-clause-err
returns-in_err-sets-2-clause-err c = let p = err_from_is_err_and c.from_residual-in_err-sets-2.result c.from_residual-in_err-sets-2.ensures.1 in rw (p.1, p.2) c.args.fitting.now.right

pub returns-in_err-sets-2-clause-rows : goal.returns-in_err-sets-2-clause-rows
returns-in_err-sets-2-clause-rows c = let p = err_from_is_err_and c.from_residual-in_err-sets-2.result c.from_residual-in_err-sets-2.ensures.1 in rw p.1 tt

pub returns-in_err-sets-2-clause-all : goal.returns-in_err-sets-2-clause-all
returns-in_err-sets-2-clause-all c = let p = err_from_is_err_and c.from_residual-in_err-sets-2.result c.from_residual-in_err-sets-2.ensures.1 in rw p.1 tt

pub returns-in_err-sets-2-clause-entered : goal.returns-in_err-sets-2-clause-entered
returns-in_err-sets-2-clause-entered c = let p = err_from_is_err_and c.from_residual-in_err-sets-2.result c.from_residual-in_err-sets-2.ensures.1 in rw p.1 tt

pub enter_named-requires : goal.enter_named-requires
enter_named-requires c = c.deref_mut.ensures.len ∙ c.in_ok-sets.ensures.len ∙ c.pages.ensures.value

pub overflow_mul-pages : goal.overflow_mul-pages
overflow_mul-pages c =
    let f = c.args.fitting.now.map.now.sizes in
    let size : c.pages-2.result * c.width.result ≡ pages f.shape f.classes * width f.shape f.vcs = ap (λ n. n * c.width.result) c.pages-2.ensures.value ∙ ap (λ w. pages f.shape f.classes * w) c.width.ensures.value in
    omega (arith, size, table-few f)

pub returns-clause-all : goal.returns-clause-all
returns-clause-all c =
    let f = c.args.fitting.now.map.now.sizes in
    c.in_ok-sets-2.ensures.len ∙ ap (λ n. n * c.width.result) c.pages-2.ensures.value ∙ ap (λ w. pages f.shape f.classes * w) c.width.ensures.value

pub returns-clause-rows : goal.returns-clause-rows
returns-clause-rows c =
    let f = c.args.fitting.now.map.now.sizes in
    let P : List RouteRow → Type 0 = λ rows. All (λ row. row_fault f.shape f.vcs f.classes row ≡ None) rows in
    subst P (c.deref.ensures.value ∙ sym (ap table_rows_of c.in-Rows.is)) c.in_default-first_fault.ensures.none

pub enter_rows-requires-clause-blank : goal.enter_rows-requires-clause-blank
enter_rows-requires-clause-blank c =
    let f = c.args.fitting.now.map.now.sizes in
    let size : c.pages-2.result * c.width.result ≡ pages f.shape f.classes * width f.shape f.vcs = ap (λ n. n * c.width.result) c.pages-2.ensures.value ∙ ap (λ w. pages f.shape f.classes * w) c.width.ensures.value in
    c.deref_mut-2.ensures.value ∙ c.in_ok-sets-2.ensures.items_if_clones_equal (λ y e. e)
    ∙ ap (λ n. replicate n c.empty-2.result) size ∙ ap (λ set. replicate (pages f.shape f.classes * width f.shape f.vcs) set) c.empty-2.ensures.bits

pub enter_rows-requires-clause-rows : goal.enter_rows-requires-clause-rows
enter_rows-requires-clause-rows c =
    let f = c.args.fitting.now.map.now.sizes in
    let P : List RouteRow → Type 0 = λ rows. All (λ row. is_real_row f.shape f.vcs f.classes row ≡ true) rows in
    subst P (c.deref.ensures.value ∙ sym c.deref-2.ensures.value) (λ k d l. row_fault-none f.shape f.vcs f.classes _ (c.in_default-first_fault.ensures.none k d l))
