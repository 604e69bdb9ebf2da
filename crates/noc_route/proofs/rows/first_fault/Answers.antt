use Rattle.std.proofs.Common.{◌≡◌, ℕ, ◌+◌, List, length, subst, sym, arith, Option, Some, None}
use Rattle.std.specs.Prelude.{IfSome}
use Rattle.std.proofs.lemmas.List.{get_or_default}
use Rattle.noc_topo.specs.Shape.{Grid}
use Rattle.noc_route.specs.Relation.{row_fault, IsFirstFault}
use Rattle.noc_route.specs.declared.rule.RouteRow.{RouteRow}
use Rattle.noc_route.specs.declared.rule.RouteFault.{RouteFault}
use Rattle.noc_route.proofs.RowLemmas.{IsFirstAmong, IsFirstAmong-more, IsLeast, IsFirstFault-from_least}
use Rattle.noc_route.proofs.rows.first_fault.Goals as goal

pub loop-row-preserved : goal.loop-row-preserved
loop-row-preserved c =
    let g = c.args.map.now.sizes.shape in
    let P : Option RouteRow → Type 0 = λ o. IsFirstAmong g c.args.map.now.sizes.vcs c.args.map.now.sizes.classes c.args.rows.now (c.loop-row.row-index + 1) o in
    subst P (sym c.earlier_fault-first.ensures)
    (IsFirstAmong-more g c.args.map.now.sizes.vcs c.args.map.now.sizes.classes c.args.rows.now c.loop-row.row-index _ c.loop-row.first
    (λ d. get_or_default c.args.rows.now c.loop-row.row-index d _ c.loop-row-test.true) c.loop-row.invariant)

fault_at : (g : Grid) (vcs classes : ℕ) (rows : List RouteRow) (n : ℕ) (row : RouteRow) (o : Option RouteFault) → n ≡ length rows
    → IsLeast g vcs classes rows n row → row_fault g vcs classes row ≡ o → IfSome o (IsFirstFault g vcs classes rows)
fault_at g vcs classes rows n row None e h f = tt
fault_at g vcs classes rows n row (Some fault) e h f = let P : ℕ → Type 0 = λ n. IsLeast g vcs classes rows n row in IsFirstFault-from_least g vcs classes rows row fault (subst P e h) f

pub returns-clause-some : goal.returns-clause-some
returns-clause-some c =
    let g = c.args.map.now.sizes.shape in
    let P : Option RouteRow → Type 0 = λ o. IsFirstAmong g c.args.map.now.sizes.vcs c.args.map.now.sizes.classes c.args.rows.now c.loop-row.row-index o in
    fault_at g c.args.map.now.sizes.vcs c.args.map.now.sizes.classes c.args.rows.now c.loop-row.row-index c.in_ok-first.field-0 c.row_fault.result (omega arith)
    (subst P c.in_ok-first.was c.loop-row.invariant) (sym c.row_fault.ensures)
