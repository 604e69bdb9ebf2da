use Rattle.std.proofs.Common.{◌+◌, ◌*◌, ◌<◌, Some, ap, arith, refl, subst, sym, ◌∙◌}
use Rattle.std.specs.Prelude.{is_some}
use Rattle.std.proofs.lemmas.Bool.{lt-ltb}
use Rattle.noc_topo.specs.Shape.{local_port}
use Rattle.noc_alloc.proofs.SwitchLemmas.{in_ready}
use Rattle.noc_view.specs.View.{View, has_link, with_credit}
use Rattle.noc_router.proofs.TakeLemmas.{credited-view, with_credit-fits}
use Rattle.noc_router.specs.Inside.{IsRouter, view_of}
use Rattle.noc_router.specs.declared.router.Router.TheInside.{Inside}
use Rattle.noc_router.proofs.RouterLemmas.{IsRouter-misfit}
use Rattle.noc_router.proofs.router.Router.take_credit.Goals as goal
use Rattle.noc_router.proofs.router.Router.take_credit.Goals.{else-vc-self-via-then-vc-self+then-is_some+else-credit_back, else-vc-self-via-then-vc-self+else-is_some, else-vc-self-via-else-vc-self}

pub invariant_of-self-else-vc-self : goal.invariant_of-self-else-vc-self
invariant_of-self-else-vc-self c =
    let r = c.self.inside in
    let n = c.saturating_add-self-inside.result in
    elim c.else-vc-self.branch [
      | else-vc-self-via-then-vc-self+then-is_some+else-credit_back w ↦
          subst (λ (i : Inside). IsRouter (record i { misfits = n })) (sym w.self-inside-is)
          (IsRouter-misfit r w.credit_back.new.self n c.self.invariant w.if-credit_back.ensures.states)
      | else-vc-self-via-then-vc-self+else-is_some w ↦
          subst (λ (i : Inside). IsRouter (record i { misfits = n })) (sym w.self-inside-is) (IsRouter-misfit r r.channels n c.self.invariant refl)
      | else-vc-self-via-else-vc-self w ↦
          subst (λ (i : Inside). IsRouter (record i { misfits = n })) (sym w.self-inside-is) (IsRouter-misfit r r.channels n c.self.invariant refl)
    ]

pub returns-then-credit_back : goal.returns-then-credit_back
returns-then-credit_back c =
    let r = c.self.inside in
    credited-view r c.credit_back.new.self (c.args.port * r.vcs + c.args.vc) c.if-credit_back.ensures.states
    ∙ sym (with_credit-fits c.args.port c.args.vc (view_of r)
    (ap (λ (v : View). has_link v.site c.args.port) c.self.view_is ∙ ap is_some (sym c.neighbour.ensures) ∙ sym c.if-is_some.ensures)
    (lt-ltb c.args.vc r.vcs c.if-vc-self.true)
    (sym c.if-credit_back.ensures.fits))
    ∙ ap (λ (v : View). with_credit c.args.port (Some c.args.vc) v) c.self.view_is

pub credit_back-requires : goal.credit_back-requires
credit_back-requires c =
    let r = c.self.inside in
    let port : c.args.port < r.ports = omega (arith, ap (λ (v : View). local_port v.site.grid) c.self.view_is, c.self.invariant.ports) in
    omega (arith, in_ready r.ports r.vcs c.args.port c.args.vc port c.if-vc-self.true, c.self.invariant.channels)
