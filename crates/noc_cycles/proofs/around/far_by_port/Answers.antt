use Rattle.std.proofs.Common.{◌≡◌, ◌+◌, arith, subst, sym}
use Rattle.noc_cycles.proofs.Common.{local_port}
use Rattle.noc_cycles.proofs.AroundLemmas.{AreFarTo, far-next, far-none, far-all}
use Rattle.noc_cycles.proofs.around.far_by_port.Goals as goal

pub loop-port-init : goal.loop-port-init
loop-port-init c = subst (AreFarTo c.args.shape.now c.args.block 0) (sym c.new-far.ensures.items) (far-none c.args.shape.now c.args.block)

pub far_of-requires-clause-port : goal.far_of-requires-clause-port
far_of-requires-clause-port c = omega (arith, c.ports-ports.ensures.local)

pub loop-port-preserved : goal.loop-port-preserved
loop-port-preserved c =
    let g = c.args.shape.now in
    let b = c.args.block in
    let n = c.loop-port.port in
    subst (AreFarTo g b (n + 1)) (sym c.in_ok-append.ensures.items) (far-next g b n c.loop-port.far.items _ c.loop-port.invariant c.in_ok-more.ensures)

pub returns : goal.returns
returns c =
    let all : c.loop-port.port ≡ local_port c.args.shape.now = omega (arith, c.ports-ports.ensures.local) in
    far-all c.args.shape.now c.args.block c.loop-port.port c.loop-port.far.items all c.loop-port.invariant
