use Rattle.std.proofs.Common.{◌≡◌, ℕ, List, get_or, true, false, refl, ap, sym, ◌∙◌, arith}
use Rattle.std.specs.Prelude.{◌||◌, nat_eq, nat_le}
use Rattle.noc_topo.specs.Shape.{coordinates}
use Rattle.noc_topo.proofs.LinkLemmas.{get_or-padded}
use Rattle.noc_route.specs.Relation.{takes_port}
use Rattle.noc_steps.specs.Ways.{is_west_first}
use Rattle.noc_route.proofs.WayLemmas.{takes-west}
use Rattle.noc_route.proofs.named.takes_port.Goals as goal

pub returns-then-is_nearer : goal.returns-then-is_nearer
returns-then-is_nearer c = λ r t w.
    let g = c.args.fitting.now.map.now.sizes.shape in
    let xs = coordinates g.radix r in
    let ts = coordinates g.radix t in
    let here : get_or c.args.way.now.here 0 0 ≡ get_or xs 0 0 = ap (λ (l : List ℕ). get_or l 0 0) w.here ∙ get_or-padded xs 0 (omega arith) in
    let there : get_or c.args.way.now.there 0 0 ≡ get_or ts 0 0 = ap (λ (l : List ℕ). get_or l 0 0) w.there ∙ get_or-padded ts 0 (omega arith) in
    let west : is_west_first xs ts c.args.port ≡ c.is_west_first.result
    = sym (c.is_west_first.ensures ∙ ap (λ x. nat_eq c.args.port 1 || nat_le x (get_or c.args.way.now.there 0 0)) here ∙ ap (λ y. nat_eq c.args.port 1 || nat_le (get_or xs 0 0) y) there) in
    sym (takes-west g c.args.fitting.now.rule.now xs ts c.args.port true c.is_west_first.result c.in-WestFirst.is (sym (c.is_nearer.ensures r t w) ∙ c.if-is_nearer.true) west)

pub returns-else-is_nearer : goal.returns-else-is_nearer
returns-else-is_nearer c = λ r t w.
    let g = c.args.fitting.now.map.now.sizes.shape in
    let xs = coordinates g.radix r in
    let ts = coordinates g.radix t in
    c.if-is_nearer.false ∙ sym (takes-west g c.args.fitting.now.rule.now xs ts c.args.port false (is_west_first xs ts c.args.port) c.in-WestFirst.is (sym (c.is_nearer.ensures r t w) ∙ c.if-is_nearer.false) refl)

pub returns-in-Adaptive : goal.returns-in-Adaptive
returns-in-Adaptive c = λ r t w.
    let g = c.args.fitting.now.map.now.sizes.shape in
    c.is_nearer-in-Adaptive.ensures r t w ∙ ap (λ rule. takes_port g rule (coordinates g.radix r) (coordinates g.radix t) c.args.port) (sym c.in-Adaptive.is)

pub returns-in-Rows : goal.returns-in-Rows
returns-in-Rows c = λ r t w.
    let g = c.args.fitting.now.map.now.sizes.shape in
    ap (λ rule. takes_port g rule (coordinates g.radix r) (coordinates g.radix t) c.args.port) (sym c.in-Rows.is)
