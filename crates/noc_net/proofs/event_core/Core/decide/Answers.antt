use Rattle.std.proofs.Common.{◌<◌, refl, ap, subst, ◌∙◌, arith}
use Rattle.noc_topo.specs.Shape.{local_port}
use Rattle.noc_view.specs.View.{Site}
use Rattle.noc_theory.specs.declared.event.Event.TheVariants.{Decide}
use Rattle.noc_theory.specs.declared.limits.TheConstants.{CYCLE_LIMIT}
use Rattle.noc_theory.specs.Core.{CoreState, Post, deciding, happens}
use Rattle.noc_wires.specs.Room.{post_of}
use Rattle.noc_net.specs.Stored.{core_in}
use Rattle.noc_theory.proofs.runs.CoreLemmas.{router_within}
use Rattle.noc_theory.proofs.runs.EventLemmas.{may_decide-parts}
use Rattle.noc_net.proofs.StoredLemmas.{within_after, in_step_after, read_at, ready_decide, ready_here, router_changed, router_relation}
use Rattle.noc_net.proofs.event_core.Core.decide.Goals as goal

pub index_mut-requires : goal.index_mut-requires
index_mut-requires c =
    let own = core_in c.self.inside.parts in
    let ready = ready_decide own c.args.router (ready_here c.args.self.now own (Decide c.args.router) c.self.view_is c.requires) in
    omega (arith, router_within CYCLE_LIMIT own c.self.invariant.in_step c.args.router ready.0 ready.1, c.self.invariant.routers)

pub index_mut-requires-2 : goal.index_mut-requires-2
index_mut-requires-2 c =
    let own = core_in c.self.inside.parts in
    let ready = ready_decide own c.args.router (ready_here c.args.self.now own (Decide c.args.router) c.self.view_is c.requires) in
    omega (arith, router_within CYCLE_LIMIT own c.self.invariant.in_step c.args.router ready.0 ready.1, c.self.invariant.room)

pub decide-requires-clause-relation : goal.decide-requires-clause-relation
decide-requires-clause-relation c =
    let parts = c.self.inside.parts in
    let own = core_in parts in
    let sound = c.self.invariant.in_step in
    let ready = ready_decide own c.args.router (ready_here c.args.self.now own (Decide c.args.router) c.self.view_is c.requires) in
    let read = read_at parts sound c.self.invariant.routers c.self.invariant.room c.args.router ready.0 ready.1 c.index_mut.result.now c.index_mut.ensures.value c.index_mut-2.result.now c.index_mut-2.ensures.value in
    router_relation parts c.args.router c.index_mut.result.now read.site

pub decide-requires-clause-steps : goal.decide-requires-clause-steps
decide-requires-clause-steps c =
    let parts = c.self.inside.parts in
    let own = core_in parts in
    let sound = c.self.invariant.in_step in
    let ready = ready_decide own c.args.router (ready_here c.args.self.now own (Decide c.args.router) c.self.view_is c.requires) in
    let read = read_at parts sound c.self.invariant.routers c.self.invariant.room c.args.router ready.0 ready.1 c.index_mut.result.now c.index_mut.ensures.value c.index_mut-2.result.now c.index_mut-2.ensures.value in
    let below = (may_decide-parts CYCLE_LIMIT own.net c.args.router ready.0 ready.2).2 in
    subst (λ (post : Post). post.steps < CYCLE_LIMIT) read.is below

pub invariant_of-self : goal.invariant_of-self
unfolding happens
invariant_of-self c =
    let parts = c.self.inside.parts in
    let own = core_in parts in
    let sound = c.self.invariant.in_step in
    let here = ready_here c.args.self.now own (Decide c.args.router) c.self.view_is c.requires in
    let ready = ready_decide own c.args.router here in
    let read = read_at parts sound c.self.invariant.routers c.self.invariant.room c.args.router ready.0 ready.1 c.index_mut.result.now c.index_mut.ensures.value c.index_mut-2.result.now c.index_mut-2.ensures.value in
    let post = post_of (local_port parts.relation.grid) c.index_mut.result.now c.index_mut-2.result.now in
    let changed =
    router_changed parts c.args.router c.index_mut.result.now c.decide.new.router c.index_mut-2.result.now c.decide.new.room (deciding own.net c.args.router)
    c.index_mut.ensures.value c.index_mut-2.ensures.value
    (c.decide.ensures own.net refl ∙ ap (λ (s : Site). deciding own.net s.node post) read.site) in
    record {
      good = c.self.invariant.good;
      in_step = in_step_after own _ (Decide c.args.router) sound here changed;
      within = within_after own _ (Decide c.args.router) sound c.self.invariant.within here changed;
      routers = c.self.invariant.routers;
      beats = c.self.invariant.beats;
      room = c.self.invariant.room;
    }

pub returns : goal.returns
unfolding happens
returns c =
    let parts = c.self.inside.parts in
    let own = core_in parts in
    let sound = c.self.invariant.in_step in
    let here = ready_here c.args.self.now own (Decide c.args.router) c.self.view_is c.requires in
    let ready = ready_decide own c.args.router here in
    let read = read_at parts sound c.self.invariant.routers c.self.invariant.room c.args.router ready.0 ready.1 c.index_mut.result.now c.index_mut.ensures.value c.index_mut-2.result.now c.index_mut-2.ensures.value in
    let post = post_of (local_port parts.relation.grid) c.index_mut.result.now c.index_mut-2.result.now in
    router_changed parts c.args.router c.index_mut.result.now c.decide.new.router c.index_mut-2.result.now c.decide.new.room (deciding own.net c.args.router)
    c.index_mut.ensures.value c.index_mut-2.ensures.value
    (c.decide.ensures own.net refl ∙ ap (λ (s : Site). deciding own.net s.node post) read.site)
    ∙ ap (λ (k : CoreState). happens k (Decide c.args.router)) c.self.view_is
