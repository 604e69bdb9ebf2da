use Rattle.std.proofs.Common.{◌≡◌, arith}
use Rattle.noc_files.proofs.PortNameLemmas.{digit_0, digit_1, digit_2, link_name}
use Rattle.noc_files.proofs.ports.known_name.Goals as goal

pub returns-in-0-clause-text : goal.returns-in-0-clause-text
returns-in-0-clause-text c = link_name c.args.shape.now c.args.port c.dimensions.result 0 _ c.dimensions.ensures.value c.if-port-dimensions.false c.in-0.is digit_0

pub returns-in-1-clause-text : goal.returns-in-1-clause-text
returns-in-1-clause-text c = link_name c.args.shape.now c.args.port c.dimensions.result 1 _ c.dimensions.ensures.value c.if-port-dimensions.false c.in-1.is digit_0

pub returns-in-2-clause-text : goal.returns-in-2-clause-text
returns-in-2-clause-text c = link_name c.args.shape.now c.args.port c.dimensions.result 2 _ c.dimensions.ensures.value c.if-port-dimensions.false c.in-2.is digit_1

pub returns-in-3-clause-text : goal.returns-in-3-clause-text
returns-in-3-clause-text c = link_name c.args.shape.now c.args.port c.dimensions.result 3 _ c.dimensions.ensures.value c.if-port-dimensions.false c.in-3.is digit_1

pub returns-in-4-clause-text : goal.returns-in-4-clause-text
returns-in-4-clause-text c = link_name c.args.shape.now c.args.port c.dimensions.result 4 _ c.dimensions.ensures.value c.if-port-dimensions.false c.in-4.is digit_2

pub returns-in_default-clause-text : goal.returns-in_default-clause-text
returns-in_default-clause-text c =
    let five : c.args.port ≡ 5 = omega (arith, c.dimensions.ensures.grid) in
    link_name c.args.shape.now c.args.port c.dimensions.result 5 _ c.dimensions.ensures.value c.if-port-dimensions.false five digit_2
