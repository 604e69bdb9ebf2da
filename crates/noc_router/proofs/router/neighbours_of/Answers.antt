use Rattle.std.proofs.Common.{arith, None, refl}
use Rattle.noc_topo.specs.Shape.{neighbour}
use Rattle.noc_router.proofs.TableLemmas.{written-more}
use Rattle.noc_router.proofs.router.neighbours_of.Goals as goal

pub returns : goal.returns
returns c = λ port l. c.loop-port.invariant.1 port (omega (arith, l, c.ports-port-end.ensures.local, c.loop-port-test.false))

pub loop-port-preserved : goal.loop-port-preserved
loop-port-preserved c = written-more 6 c.loop-port.port None (neighbour c.args.shape.now c.args.node) c.loop-port.neighbours c.neighbour.result (omega (arith, c.loop-port-test.true, c.ports-port-end.ensures.few)) c.neighbour.ensures.value c.loop-port.invariant

pub loop-port-init : goal.loop-port-init
loop-port-init c = (refl, λ k l. absurd (omega (arith, l)))

pub bounds-neighbours-port : goal.bounds-neighbours-port
bounds-neighbours-port c = omega (arith, c.loop-port-test.true, c.ports-port-end.ensures.few)

pub neighbour-requires-clause-port : goal.neighbour-requires-clause-port
neighbour-requires-clause-port c = omega (arith, c.loop-port-test.true, c.ports-port-end.ensures.value)
