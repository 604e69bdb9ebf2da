use Rattle.std.proofs.Common.{◌≡◌, ◌≤◌, true, length, sym, ◌∙◌, ap, arith, rules}
use Rattle.std.specs.List.{list_all}
use Rattle.noc_topo.specs.Shape.{is_radix, product, wraps_of}
use Rattle.noc_topo.proofs.ShapeLemmas.{filled-sizes, length-filled, product-filled, take-filled, shape_of-ok, shape_of-many, IsSound-filled}
use Rattle.noc_topo.proofs.shape.Shape.new.Goals as goal

pub volume-requires : goal.volume-requires
volume-requires c =
    let few : length c.args.radix.now ≤ 3 = omega arith in
    let some : 1 ≤ length c.args.radix.now = grind arith in
    let sizes : list_all is_radix c.args.radix.now ≡ true = cc in
    rw c.filled_sizes-sizes.ensures (λ i l. (filled-sizes c.args.radix.now some few sizes i (omega (arith, length-filled c.args.radix.now))).1)

pub returns-then-volume-gt-MAX_NODES-clause-value : goal.returns-then-volume-gt-MAX_NODES-clause-value
returns-then-volume-gt-MAX_NODES-clause-value c =
    let few : length c.args.radix.now ≤ 3 = omega arith in
    let some : 1 ≤ length c.args.radix.now = grind arith in
    let sizes : list_all is_radix c.args.radix.now ≡ true = cc in
    let nodes : c.volume.result ≡ product c.args.radix.now = c.volume.ensures ∙ ap product c.filled_sizes-sizes.ensures ∙ product-filled c.args.radix.now some few in
    sym (shape_of-many c.args.kind c.args.radix.now some few sizes (omega (arith, nodes)))

pub invariant_of-result : goal.invariant_of-result
invariant_of-result c =
    let few : length c.args.radix.now ≤ 3 = omega arith in
    let some : 1 ≤ length c.args.radix.now = grind arith in
    let sizes : list_all is_radix c.args.radix.now ≡ true = cc in
    let nodes : c.volume.result ≡ product c.args.radix.now = c.volume.ensures ∙ ap product c.filled_sizes-sizes.ensures ∙ product-filled c.args.radix.now some few in
    rw c.filled_sizes-sizes.ensures (IsSound-filled c.eq.result c.args.radix.now some few sizes (omega (arith, nodes)))

pub returns-clause-value : goal.returns-clause-value
returns-clause-value c =
    let few : length c.args.radix.now ≤ 3 = omega arith in
    let some : 1 ≤ length c.args.radix.now = grind arith in
    let sizes : list_all is_radix c.args.radix.now ≡ true = cc in
    let nodes : c.volume.result ≡ product c.args.radix.now = c.volume.ensures ∙ ap product c.filled_sizes-sizes.ensures ∙ product-filled c.args.radix.now some few in
    let wraps : c.eq.result ≡ wraps_of c.args.kind = search rules in
    rw (c.filled_sizes-sizes.ensures, take-filled c.args.radix.now some few, wraps)
    (sym (shape_of-ok c.args.kind c.args.radix.now some few sizes (omega (arith, nodes))))

pub returns-clause-grid : goal.returns-clause-grid
returns-clause-grid c =
    let few : length c.args.radix.now ≤ 3 = omega arith in
    let some : 1 ≤ length c.args.radix.now = grind arith in
    let sizes : list_all is_radix c.args.radix.now ≡ true = cc in
    let nodes : c.volume.result ≡ product c.args.radix.now = c.volume.ensures ∙ ap product c.filled_sizes-sizes.ensures ∙ product-filled c.args.radix.now some few in
    rw c.filled_sizes-sizes.ensures (IsSound-filled c.eq.result c.args.radix.now some few sizes (omega (arith, nodes))).shape
