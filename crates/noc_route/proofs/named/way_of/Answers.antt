use Rattle.noc_topo.specs.Shape.{coordinates}
use Rattle.noc_topo.proofs.LinkLemmas.{padded-below}
use Rattle.noc_route.proofs.NamedLemmas.{dor_port-link}
use Rattle.noc_route.proofs.named.way_of.Goals as goal

pub dor_port-requires-clause-here : goal.dor_port-requires-clause-here
dor_port-requires-clause-here c =
    rw (c.coordinates-here.ensures.value, c.args.map.now.corner) (λ i l. padded-below c.args.map.now.sizes.shape c.args.router i c.coordinates-here.ensures.grid l)

pub dor_port-requires-clause-there : goal.dor_port-requires-clause-there
dor_port-requires-clause-there c =
    rw (c.coordinates-there.ensures.value, c.args.map.now.corner) (λ i l. padded-below c.args.map.now.sizes.shape c.args.dst i c.coordinates-there.ensures.grid l)

pub returns-clause-way : goal.returns-clause-way
returns-clause-way c = record {
  here = c.coordinates-here.ensures.value;
  there = c.coordinates-there.ensures.value;
  towards = c.dor_port.ensures c.args.router c.args.dst c.coordinates-here.ensures.value c.coordinates-there.ensures.value;
}

pub returns-clause-link : goal.returns-clause-link
returns-clause-link c =
    let g = c.args.map.now.sizes.shape in
    dor_port-link g (coordinates g.radix c.args.router) (coordinates g.radix c.args.dst) c.dor_port.result
    (c.dor_port.ensures c.args.router c.args.dst c.coordinates-here.ensures.value c.coordinates-there.ensures.value)

pub returns-clause-here : goal.returns-clause-here
returns-clause-here c =
    rw (c.coordinates-here.ensures.value, c.args.map.now.corner) (λ i l. padded-below c.args.map.now.sizes.shape c.args.router i c.coordinates-here.ensures.grid l)

pub returns-clause-there : goal.returns-clause-there
returns-clause-there c =
    rw (c.coordinates-there.ensures.value, c.args.map.now.corner) (λ i l. padded-below c.args.map.now.sizes.shape c.args.dst i c.coordinates-there.ensures.grid l)
