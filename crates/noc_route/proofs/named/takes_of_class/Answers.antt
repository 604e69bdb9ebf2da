use Rattle.std.proofs.Common.{◌≡◌, ℕ, ◌/◌, ◌%◌, ◌<◌, List, get_or, refl, ap, sym, ◌∙◌, arith}
use Rattle.std.specs.Prelude.{nat_eq}
use Rattle.std.proofs.lemmas.Bool.{le-leb}
use Rattle.noc_topo.specs.Shape.{coordinates}
use Rattle.noc_topo.proofs.LinkLemmas.{get_or-padded}
use Rattle.noc_route.specs.Relation.{is_right, resource_class, takes_of_class}
use Rattle.noc_steps.specs.Ways.{dateline_class}
use Rattle.noc_route.proofs.EntryLemmas.{half-some, adaptive-some}
use Rattle.noc_route.proofs.WayLemmas.{takes-adaptive, takes-all, takes-escape}
use Rattle.noc_route.proofs.named.takes_of_class.Goals as goal

pub resource_class-requires : goal.resource_class-requires
resource_class-requires c =
    let f = c.args.fitting.now.map.now.sizes in
    half-some f.shape f.vcs f.classes (sym (ap (is_right f.shape f.vcs f.classes) c.in-Dateline.is) ∙ c.args.fitting.now.right)

pub nonzero_div-index : goal.nonzero_div-index
nonzero_div-index c = c.args.fitting.now.map.now.sizes.some_classes

pub nonzero_rem-index : goal.nonzero_rem-index
nonzero_rem-index c =
    let f = c.args.fitting.now.map.now.sizes in
    adaptive-some f.shape f.vcs f.classes (sym (ap (is_right f.shape f.vcs f.classes) c.in-Adaptive.is) ∙ c.args.fitting.now.right)

pub returns-in-Dateline : goal.returns-in-Dateline
returns-in-Dateline c = λ r t w.
    let f = c.args.fitting.now.map.now.sizes in
    let i = c.args.port / 2 in
    let xs = coordinates f.shape.radix r in
    let ts = coordinates f.shape.radix t in
    let low : i < 3 = omega (arith, c.requires) in
    let here : get_or c.args.way.now.here i 0 ≡ get_or xs i 0 = ap (λ (l : List ℕ). get_or l i 0) w.here ∙ get_or-padded xs i low in
    let there : get_or c.args.way.now.there i 0 ≡ get_or ts i 0 = ap (λ (l : List ℕ). get_or l i 0) w.there ∙ get_or-padded ts i low in
    let half = c.dateline_class.ensures ∙ ap (λ x. dateline_class c.args.port x (get_or c.args.way.now.there i 0)) here ∙ ap (λ y. dateline_class c.args.port (get_or xs i 0) y) there in
    ap (λ a. nat_eq a c.dateline_class.result) c.resource_class.ensures.value
    ∙ ap (λ b. nat_eq (resource_class f.vcs f.classes c.args.vc) b) half
    ∙ ap (λ rule. takes_of_class f.shape f.vcs f.classes rule xs ts c.args.port c.args.vc) (sym c.in-Dateline.is)

pub returns-then-index-escapes : goal.returns-then-index-escapes
returns-then-index-escapes c = λ r t w.
    let f = c.args.fitting.now.map.now.sizes in
    le-leb c.escapes.result (c.args.vc % (f.vcs / f.classes)) c.if-index-escapes.true
    ∙ sym (takes-adaptive f.shape f.vcs f.classes c.args.fitting.now.rule.now (coordinates f.shape.radix r) (coordinates f.shape.radix t) c.args.port c.args.vc c.escapes.result c.in-Adaptive.is c.escapes.ensures.value c.if-index-escapes.true)

pub returns-else-index-escapes : goal.returns-else-index-escapes
returns-else-index-escapes c = λ r t w.
    let f = c.args.fitting.now.map.now.sizes in
    c.takes_escape.ensures r t c.args.vc w refl
    ∙ sym (takes-escape f.shape f.vcs f.classes c.args.fitting.now.rule.now (coordinates f.shape.radix r) (coordinates f.shape.radix t) c.args.port c.args.vc c.escapes.result c.in-Adaptive.is c.escapes.ensures.value c.if-index-escapes.false)

pub returns-in-Dor : goal.returns-in-Dor
returns-in-Dor c = λ r t w.
    let f = c.args.fitting.now.map.now.sizes in
    takes-all f.shape f.vcs f.classes c.args.fitting.now.rule.now (coordinates f.shape.radix r) (coordinates f.shape.radix t) c.args.port c.args.vc c.in-Dor.is

pub returns-in-Dor-2 : goal.returns-in-Dor-2
returns-in-Dor-2 c = λ r t w.
    let f = c.args.fitting.now.map.now.sizes in
    takes-all f.shape f.vcs f.classes c.args.fitting.now.rule.now (coordinates f.shape.radix r) (coordinates f.shape.radix t) c.args.port c.args.vc c.in-Dor.is

pub returns-in-Dor-3 : goal.returns-in-Dor-3
returns-in-Dor-3 c = λ r t w.
    let f = c.args.fitting.now.map.now.sizes in
    takes-all f.shape f.vcs f.classes c.args.fitting.now.rule.now (coordinates f.shape.radix r) (coordinates f.shape.radix t) c.args.port c.args.vc c.in-Dor.is
