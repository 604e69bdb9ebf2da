use Rattle.std.proofs.Common.{◌/◌, ◌<◌, [], refl, ap, sym, ◌∙◌, arith}
use Rattle.std.specs.Prelude.{◌&&◌, ◌||◌, nat_lt, nat_eq}
use Rattle.std.proofs.Math.Nat.{div-lt_iff_lt-mul}
use Rattle.std.proofs.lemmas.Bool.{and_parts, le-ltb, lt-ltb, ltb-true}
use Rattle.noc_packet.specs.Set.{has_bit}
use Rattle.noc_topo.specs.Shape.{ports}
use Rattle.noc_route.specs.Trimming.{routes_in, comes_in}
use Rattle.noc_route.proofs.BoolLemmas.{lt_next, either_next}
use Rattle.noc_route.proofs.TrimLemmas.{port-below}
use Rattle.noc_route.proofs.gather.Departures.arrivals.Goals as goal

pub loop-port-init : goal.loop-port-init
loop-port-init c = λ sets i.
    let f = c.args.self.now.map.now.sizes in
    let none = le-ltb (i / f.vcs) 0 (omega arith) in
    c.empty-all.ensures.members i
    ∙ sym (ap (λ b. b && comes_in (routes_in f sets) c.args.self.now.outs.now c.args.class c.args.router c.args.dst i) none)

pub loop-port-preserved : goal.loop-port-preserved
loop-port-preserved c = λ sets i.
    let f = c.args.self.now.map.now.sizes in
    let port = c.loop-port.port in
    let comes = comes_in (routes_in f sets) c.args.self.now.outs.now c.args.class c.args.router c.args.dst i in
    let x = nat_eq (i / f.vcs) port in
    let below = nat_lt (i / f.vcs) port in
    c.either-all.ensures i
    ∙ ap (λ b. b || has_bit c.arrivals_by.result i) (c.loop-port.invariant sets i)
    ∙ ap (λ b. (below && comes) || b) (c.arrivals_by.ensures sets i)
    ∙ either_next x below comes comes (λ _. refl)
    ∙ ap (λ b. b && comes) (sym (lt_next (i / f.vcs) port))

pub returns-clause-members : goal.returns-clause-members
returns-clause-members c = λ sets i m.
    let f = c.args.self.now.map.now.sizes in
    let port : i / f.vcs < c.loop-port.port = omega (arith, port-below f.shape f.vcs i f.some_vcs m, c.loop-port-test.false, f.all_ports) in
    c.loop-port.invariant sets i
    ∙ ap (λ b. b && comes_in (routes_in f sets) c.args.self.now.outs.now c.args.class c.args.router c.args.dst i) (lt-ltb (i / f.vcs) c.loop-port.port port)

pub returns-clause-within : goal.returns-clause-within
returns-clause-within c = λ i e.
    let f = c.args.self.now.map.now.sizes in
    let parts = and_parts (nat_lt (i / f.vcs) c.loop-port.port) _ (sym (c.loop-port.invariant [] i) ∙ e) in
    let below = ltb-true (i / f.vcs) c.loop-port.port parts.0 in
    (div-lt_iff_lt-mul {k = f.vcs} {x = i} {y = ports f.shape} f.some_vcs).0 (omega (arith, below, c.loop-port.auto.port-end, f.all_ports))
