use Rattle.std.proofs.Common.{◌≡◌, true, sym, subst}
use Rattle.std.proofs.lemmas.Result.{err_from_is_err_and}
use Rattle.noc_route.specs.Built.{IsRelationOfRule}
use Rattle.noc_route.specs.Columns.{table_of}
use Rattle.noc_route.specs.Entered.{routing_in}
use Rattle.noc_route.specs.Relation.{RelationParts, IsFaultOf, is_right}
use Rattle.noc_route.specs.Routes.{IsRelation}
use Rattle.noc_route.specs.Trimming.{routes_in}
use Rattle.noc_route.specs.declared.sizes.Sizes.{Sizes}
use Rattle.noc_route.proofs.WayLemmas.{routing_in-sizes}
use Rattle.noc_route.proofs.relation.Relation.build.Goals as goal

pub invariant_of-fitting : goal.invariant_of-fitting
invariant_of-fitting c =
    let s = c.in-Some.ensures.some in
    let P : Sizes → Type 0 = λ f. is_right f.shape f.vcs f.classes c.args.rule ≡ true in
    let Q : RelationParts → Type 0 = λ g. is_right g.grid g.vcs g.classes g.rule ≡ true in
    record { right = subst P (sym c.in_ok-map.ensures) (subst Q (sym (routing_in-sizes c.in-Some.sizes c.args.shape.now c.args.vcs c.args.classes c.args.rule s.1 s.2 s.3)) s.0) }

pub returns-in_default-clause-exact : goal.returns-in_default-clause-exact
returns-in_default-clause-exact c = c.in_default.ensures.none

pub returns-in_err-map-clause-exact : goal.returns-in_err-map-clause-exact
returns-in_err-map-clause-exact c = let p = err_from_is_err_and c.from_residual.result c.from_residual.ensures.1 in rw (p.1, p.2) c.in-Some.ensures.some.0

pub returns-in_err-columns_of-clause-exact : goal.returns-in_err-columns_of-clause-exact
returns-in_err-columns_of-clause-exact c =
    let s = c.in-Some.ensures.some in
    let p = err_from_is_err_and c.from_residual-in_err-columns_of.result c.from_residual-in_err-columns_of.ensures.1 in
    let P : Sizes → Type 0 = λ f. IsFaultOf (routing_in f c.args.rule) c.in_err-columns_of.field-0.0 in
    let Q : RelationParts → Type 0 = λ g. IsFaultOf g c.in_err-columns_of.field-0.0 in
    rw (p.1, p.2)
    (subst Q (routing_in-sizes c.in-Some.sizes c.args.shape.now c.args.vcs c.args.classes c.args.rule s.1 s.2 s.3)
    (subst P c.in_ok-map.ensures c.in_err-columns_of.ensures.exact))

pub invariant_of-result : goal.invariant_of-result
invariant_of-result c =
    let columns = c.in_ok-columns_of.field-0 in
    let P : Sizes → Type 0 = λ f. IsRelation (routes_in f (table_of f columns.sets columns.starts.items)) in
    subst P (sym c.in_ok-columns_of.ensures.sizes) c.in_ok-columns_of.ensures.exact.built

pub returns-clause-exact : goal.returns-clause-exact
returns-clause-exact c =
    let s = c.in-Some.ensures.some in
    let columns = c.in_ok-columns_of.field-0 in
    let P : Sizes → Type 0 = λ f. IsRelationOfRule (routing_in c.in_ok-map.map.sizes c.args.rule) (routes_in f (table_of f columns.sets columns.starts.items)) in
    let Q : RelationParts → Type 0 = λ g. IsRelationOfRule g (routes_in columns.sizes (table_of columns.sizes columns.sets columns.starts.items)) in
    subst Q (routing_in-sizes c.in-Some.sizes c.args.shape.now c.args.vcs c.args.classes c.args.rule s.1 s.2 s.3)
    (subst (λ (f : Sizes). Q (routing_in f c.args.rule)) c.in_ok-map.ensures (subst P (sym c.in_ok-columns_of.ensures.sizes) c.in_ok-columns_of.ensures.exact))

pub returns-clause-built : goal.returns-clause-built
returns-clause-built c =
    let columns = c.in_ok-columns_of.field-0 in
    let P : Sizes → Type 0 = λ f. IsRelation (routes_in f (table_of f columns.sets columns.starts.items)) in
    subst P (sym c.in_ok-columns_of.ensures.sizes) c.in_ok-columns_of.ensures.exact.built
