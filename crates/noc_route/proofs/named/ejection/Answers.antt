use Rattle.std.proofs.Common.{◌≡◌, ◌+◌, ◌-◌, ◌*◌, ◌/◌, ◌∙◌, ap, arith}
use Rattle.noc_topo.specs.Shape.{local_port}
use Rattle.noc_route.proofs.WayLemmas.{span_test}
use Rattle.noc_route.proofs.named.ejection.Goals as goal

pub returns : goal.returns
returns c = λ k.
    let f = c.args.sizes.now in
    let local : f.port_count - 1 ≡ local_port f.shape = omega (arith, f.all_ports) in
    c.span.ensures k
    ∙ span_test k (local_port f.shape) (c.args.class * f.vcs / f.classes) ((c.args.class + 1) * f.vcs / f.classes) f.vcs _ _ (omega (arith, c.channels_of_class-first.ensures.end, c.channels_of_class-first.ensures.within))
    (ap (λ p. p * f.vcs + c.channels_of_class-first.result.0) local ∙ ap (λ v. local_port f.shape * f.vcs + v) c.channels_of_class-first.ensures.first)
    (omega (arith, c.channels_of_class-first.ensures.end, c.channels_of_class-first.ensures.first))
