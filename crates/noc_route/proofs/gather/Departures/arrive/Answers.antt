use Rattle.std.proofs.Common.{◌≡◌, ◌/◌, ◌%◌, ◌<◌, ◌∙◌, refl, length, ap, sym, arith}
use Rattle.std.specs.Prelude.{◌&&◌, ◌||◌, nat_lt, nat_eq, replicate}
use Rattle.std.proofs.lemmas.Bool.{le-ltb, lt-ltb}
use Rattle.noc_packet.specs.Set.{has_bit}
use Rattle.noc_packet.proofs.SetLemmas.{has_bit-zero}
use Rattle.noc_route.specs.Trimming.{routes_in, comes_in}
use Rattle.noc_route.proofs.BoolLemmas.{lt_next, either_next}
use Rattle.noc_route.proofs.EntryLemmas.{zeros-at}
use Rattle.noc_route.proofs.StuckLemmas.{comes_at-pair}
use Rattle.noc_route.proofs.TrimLemmas.{port-below}
use Rattle.noc_route.proofs.gather.Departures.arrive.Goals as goal

pub loop-port-init : goal.loop-port-init
loop-port-init c = λ sets t i l.
    let f = c.args.self.now.map.now.sizes in
    let none = le-ltb (i / f.vcs) 0 (omega arith) in
    let zeros : c.fill.new.self ≡ replicate (length c.args.coming.now) 0
    = c.fill.ensures.after (λ y e. e) ∙ ap (λ set. replicate (length c.args.coming.now) set) c.empty.ensures.bits in
    ap (λ set. has_bit set i) (zeros-at c.fill.new.self (length c.args.coming.now) zeros t) ∙ has_bit-zero i
    ∙ sym (ap (λ b. b && comes_in (routes_in f sets) c.args.self.now.outs.now (c.args.pair % f.classes) (c.args.pair / f.classes) t i) none)

pub loop-port-preserved : goal.loop-port-preserved
loop-port-preserved c = λ sets t i l.
    let f = c.args.self.now.map.now.sizes in
    let port = c.loop-port.port in
    let comes = comes_in (routes_in f sets) c.args.self.now.outs.now (c.args.pair % f.classes) (c.args.pair / f.classes) t i in
    let x = nat_eq (i / f.vcs) port in
    let below = nat_lt (i / f.vcs) port in
    c.arrive_by.ensures sets t i l
    ∙ ap (λ b. b || (x && comes)) (c.loop-port.invariant sets t i l)
    ∙ either_next x below comes comes (λ _. refl)
    ∙ ap (λ b. b && comes) (sym (lt_next (i / f.vcs) port))

pub returns : goal.returns
returns c = λ sets t i l m.
    let f = c.args.self.now.map.now.sizes in
    let port : i / f.vcs < c.loop-port.port = omega (arith, port-below f.shape f.vcs i f.some_vcs m, c.loop-port-test.false, f.all_ports) in
    c.loop-port.invariant sets t i l
    ∙ ap (λ b. b && comes_in (routes_in f sets) c.args.self.now.outs.now (c.args.pair % f.classes) (c.args.pair / f.classes) t i) (lt-ltb (i / f.vcs) c.loop-port.port port)
    ∙ sym (comes_at-pair (routes_in f sets) c.args.self.now.outs.now c.args.pair t i l)
