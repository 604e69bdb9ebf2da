use Rattle.std.proofs.Common.{◌≡◌, ◌+◌, ◌*◌, ◌/◌, ◌%◌, ◌<◌, ◌∙◌, ap, subst, sym, arith, get_or}
use Rattle.std.proofs.Math.Nat.{div-lt_iff_lt-mul}
use Rattle.std.proofs.lemmas.Nat.{mod_below}
use Rattle.noc_topo.specs.Shape.{nodes, ports}
use Rattle.noc_route.specs.Routes.{Routes, page_of, set_at, width}
use Rattle.noc_route.specs.Stored.{routes_of}
use Rattle.noc_route.proofs.EntryLemmas.{flat-below, set_at-existing}
use Rattle.noc_route.proofs.ColumnLemmas.{table-at}
use Rattle.noc_route.proofs.relation.Relation.permitted_from.Goals as goal

pub column-column-requires-clause-class : goal.column-column-requires-clause-class
column-column-requires-clause-class c = subst (λ (routes : Routes). c.args.class < routes.classes) (sym c.self.view_is) c.requires.class

pub column-column-requires-clause-router : goal.column-column-requires-clause-router
column-column-requires-clause-router c = subst (λ (routes : Routes). c.args.router < nodes routes.grid) (sym c.self.view_is) c.requires.router

pub column-column-requires-clause-input : goal.column-column-requires-clause-input
column-column-requires-clause-input c = subst (λ (routes : Routes). c.args.input < ports routes.grid * routes.vcs) (sym c.self.view_is) c.requires.input

pub set-requires-clause-dst : goal.set-requires-clause-dst
set-requires-clause-dst c = subst (λ (routes : Routes). c.args.dst < nodes routes.grid) (sym c.self.view_is) c.requires.dst

pub returns-clause-value : goal.returns-clause-value
returns-clause-value c =
    let columns = c.self.inside.columns in
    let f = columns.sizes in
    let sets = columns.sets in
    let starts = columns.starts.items in
    let pair = c.args.router * f.classes + c.args.class in
    let input = c.args.input in
    let class : c.args.class < f.classes = subst (λ (routes : Routes). c.args.class < routes.classes) (sym c.self.view_is) c.requires.class in
    let router : c.args.router < nodes f.shape = subst (λ (routes : Routes). c.args.router < nodes routes.grid) (sym c.self.view_is) c.requires.router in
    let low : input < ports f.shape * f.vcs = subst (λ (routes : Routes). input < ports routes.grid * routes.vcs) (sym c.self.view_is) c.requires.input in
    let dst : c.args.dst < nodes f.shape = subst (λ (routes : Routes). c.args.dst < nodes routes.grid) (sym c.self.view_is) c.requires.dst in
    let some : 0 < f.vcs = (let one = c.self.invariant.table.some_vcs in omega (arith, one)) in
    let whole : input ≡ input / f.vcs * f.vcs + input % f.vcs = omega arith in
    let port : input / f.vcs < ports f.shape = (div-lt_iff_lt-mul {k = f.vcs} {x = input} {y = ports f.shape} some).1 low in
    let vc : input % f.vcs < f.vcs = mod_below input f.vcs some in
    c.set.ensures
    ∙ ap (λ k. get_or sets (get_or starts k 0 + c.args.dst) 0) c.column-column.ensures.value
    ∙ sym (table-at f sets starts pair c.args.dst input (flat-below c.args.router (nodes f.shape) c.args.class f.classes router class) dst low)
    ∙ ap (λ i. get_or (routes_of c.self.inside).sets (page_of f.shape f.classes c.args.class c.args.router c.args.dst * width f.shape f.vcs + i) 0) whole
    ∙ sym (set_at-existing (routes_of c.self.inside) c.args.class c.args.router (input / f.vcs) (input % f.vcs) c.args.dst class router port vc dst)
    ∙ ap (λ (routes : Routes). set_at routes c.args.class c.args.router (input / routes.vcs) (input % routes.vcs) c.args.dst) c.self.view_is
