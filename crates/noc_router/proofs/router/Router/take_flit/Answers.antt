use Rattle.std.proofs.Common.{◌+◌, ◌-◌, ◌*◌, ◌<◌, ap, refl, subst, sym, ◌∙◌, arith, rules, Some}
use Rattle.std.specs.Prelude.{is_some}
use Rattle.std.proofs.lemmas.Bool.{lt-ltb, le-ltb}
use Rattle.noc_ring.specs.Buffers.{buffer_at}
use Rattle.noc_topo.specs.Shape.{local_port}
use Rattle.noc_vc.specs.Input.{fits}
use Rattle.noc_router.specs.Sound.{nth_input}
use Rattle.noc_view.specs.View.{View, has_link, with_flit, saturating_next}
use Rattle.noc_router.specs.Inside.{IsRouter, view_of}
use Rattle.noc_router.specs.declared.router.Router.TheInside.{Inside}
use Rattle.noc_alloc.proofs.SwitchLemmas.{in_ready}
use Rattle.noc_router.proofs.RouterLemmas.{IsRouter-landed, IsRouter-misfit}
use Rattle.noc_router.proofs.TakeLemmas.{with_flit-lands, with_flit-turned, no_link, no_channel, no_fit, landed-view, misfit-view}
use Rattle.noc_router.proofs.router.Router.take_flit.Goals as goal
use Rattle.noc_router.proofs.router.Router.take_flit.Goals.{else-vc-self-via-then-vc-self+then-is_some+else-land, else-vc-self-via-then-vc-self+else-is_some, else-vc-self-via-else-vc-self}

pub returns-then-land : goal.returns-then-land
returns-then-land c =
    let r = c.self.inside in
    landed-view r c.land.new.self (c.args.port * r.vcs + c.args.vc) c.args.flit.now c.if-land.ensures.states
    ∙ sym (with_flit-lands c.args.relation.now c.args.port c.args.vc c.args.flit.now (view_of r)
    (ap (λ (v : View). has_link v.site c.args.port) c.self.view_is ∙ ap is_some (sym c.neighbour.ensures) ∙ sym c.if-is_some.ensures)
    (lt-ltb c.args.vc r.vcs c.if-vc-self.true)
    (ap (λ n. fits c.args.relation.now r.node c.args.port c.args.vc n (buffer_at r.channels.bank (c.args.port * r.vcs + c.args.vc)) (nth_input r.channels.inputs.items (c.args.port * r.vcs + c.args.vc)) c.args.flit.now) (sym c.self.invariant.depth)
    ∙ sym c.if-land.ensures.fits))
    ∙ ap (λ (v : View). with_flit c.args.relation.now c.args.port (Some (c.args.vc, c.args.flit.now)) v) c.self.view_is

pub returns-else-vc-self : goal.returns-else-vc-self
returns-else-vc-self c =
    let r = c.self.inside in
    let n = c.saturating_add-self-inside.result in
    let whole = ap (λ (v : View). with_flit c.args.relation.now c.args.port (Some (c.args.vc, c.args.flit.now)) v) c.self.view_is in
    elim c.else-vc-self.branch [
      | else-vc-self-via-then-vc-self+then-is_some+else-land w ↦
          ap (λ (i : Inside). view_of (record i { misfits = n })) w.self-inside-is
          ∙ misfit-view r w.land.new.self n w.if-land.ensures.states
          (c.saturating_add-self-inside.ensures ∙ ap (λ (i : Inside). saturating_next i.misfits) w.self-inside-is)
          ∙ sym (with_flit-turned c.args.relation.now c.args.port c.args.vc c.args.flit.now (view_of r)
          (no_fit c.args.relation.now c.args.port c.args.vc c.args.flit.now (view_of r)
          (ap (λ k. fits c.args.relation.now r.node c.args.port c.args.vc k (buffer_at r.channels.bank (c.args.port * r.vcs + c.args.vc)) (nth_input r.channels.inputs.items (c.args.port * r.vcs + c.args.vc)) c.args.flit.now) (sym c.self.invariant.depth)
          ∙ sym w.if-land.ensures.fits)))
          ∙ whole
      | else-vc-self-via-then-vc-self+else-is_some w ↦
          ap (λ (i : Inside). view_of (record i { misfits = n })) w.self-inside-is
          ∙ misfit-view r r.channels n refl (c.saturating_add-self-inside.ensures ∙ ap (λ (i : Inside). saturating_next i.misfits) w.self-inside-is)
          ∙ sym (with_flit-turned c.args.relation.now c.args.port c.args.vc c.args.flit.now (view_of r)
          (no_link c.args.relation.now c.args.port c.args.vc c.args.flit.now (view_of r)
          (ap (λ (v : View). has_link v.site c.args.port) c.self.view_is ∙ ap is_some (sym w.neighbour.ensures) ∙ sym w.if-is_some.ensures)))
          ∙ whole
      | else-vc-self-via-else-vc-self w ↦
          ap (λ (i : Inside). view_of (record i { misfits = n })) w.self-inside-is
          ∙ misfit-view r r.channels n refl (c.saturating_add-self-inside.ensures ∙ ap (λ (i : Inside). saturating_next i.misfits) w.self-inside-is)
          ∙ sym (with_flit-turned c.args.relation.now c.args.port c.args.vc c.args.flit.now (view_of r)
          (no_channel c.args.relation.now c.args.port c.args.vc c.args.flit.now (view_of r) (le-ltb _ _ w.if-vc-self.false)))
          ∙ whole
    ]

pub invariant_of-self-else-vc-self : goal.invariant_of-self-else-vc-self
invariant_of-self-else-vc-self c =
    let r = c.self.inside in
    let n = c.saturating_add-self-inside.result in
    elim c.else-vc-self.branch [
      | else-vc-self-via-then-vc-self+then-is_some+else-land w ↦
          subst (λ (i : Inside). IsRouter (record i { misfits = n })) (sym w.self-inside-is)
          (IsRouter-misfit r w.land.new.self n c.self.invariant w.if-land.ensures.states)
      | else-vc-self-via-then-vc-self+else-is_some w ↦
          subst (λ (i : Inside). IsRouter (record i { misfits = n })) (sym w.self-inside-is) (IsRouter-misfit r r.channels n c.self.invariant refl)
      | else-vc-self-via-else-vc-self w ↦
          subst (λ (i : Inside). IsRouter (record i { misfits = n })) (sym w.self-inside-is) (IsRouter-misfit r r.channels n c.self.invariant refl)
    ]

pub invariant_of-self : goal.invariant_of-self
invariant_of-self c =
    let r = c.self.inside in
    let port : c.args.port < r.ports - 1 = search rules in
    IsRouter-landed r c.land.new.self (c.args.port * r.vcs + c.args.vc) c.args.flit.now c.self.invariant c.if-land.ensures.states
    (in_ready (r.ports - 1) r.vcs c.args.port c.args.vc port c.if-vc-self.true)

pub land-requires-clause-exists : goal.land-requires-clause-exists
land-requires-clause-exists c =
    let r = c.self.inside in
    let port : c.args.port < r.ports = omega (arith, ap (λ (v : View). local_port v.site.grid) c.self.view_is, c.self.invariant.ports) in
    omega (arith, in_ready r.ports r.vcs c.args.port c.args.vc port c.if-vc-self.true, c.self.invariant.channels)
