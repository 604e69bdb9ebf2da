use Rattle.std.proofs.Common.{ap, ◌∙◌, arith}
use Rattle.noc_topo.specs.Shape.{local_port}
use Rattle.noc_theory.specs.declared.event.Event.TheVariants.{Take}
use Rattle.noc_theory.specs.declared.limits.TheConstants.{CYCLE_LIMIT}
use Rattle.noc_theory.specs.Core.{CoreState, happens, taking}
use Rattle.noc_net.specs.Stored.{core_in}
use Rattle.noc_theory.proofs.runs.CoreLemmas.{router_within}
use Rattle.noc_theory.proofs.runs.EventLemmas.{linked_port}
use Rattle.noc_net.proofs.StoredLemmas.{few_links, in_step_after, within_after, ready_here, ready_take, room_changed}
use Rattle.noc_net.proofs.event_core.Core.take.Goals as goal

pub index_mut-requires : goal.index_mut-requires
index_mut-requires c =
    let own = core_in c.self.inside.parts in
    let ready = ready_take own c.args.router c.args.port (ready_here c.args.self.now own (Take c.args.router c.args.port) c.self.view_is c.requires) in
    omega (arith, router_within CYCLE_LIMIT own c.self.invariant.in_step c.args.router ready.1.0 ready.1.1, c.self.invariant.room)

pub take-requires : goal.take-requires
take-requires c =
    let own = core_in c.self.inside.parts in
    let ready = ready_take own c.args.router c.args.port (ready_here c.args.self.now own (Take c.args.router c.args.port) c.self.view_is c.requires) in
    omega (arith, linked_port own.net c.args.router c.args.port ready.0, few_links own c.self.invariant.in_step)

pub invariant_of-self : goal.invariant_of-self
unfolding happens
invariant_of-self c =
    let parts = c.self.inside.parts in
    let own = core_in parts in
    let event = Take c.args.router c.args.port in
    let ready = ready_here c.args.self.now own event c.self.view_is c.requires in
    let link = linked_port own.net c.args.router c.args.port (ready_take own c.args.router c.args.port ready).0 in
    let changed = room_changed parts c.args.router c.index_mut.result.now c.take.new.self (taking c.args.port) c.index_mut.ensures.value (λ v. c.take.ensures (local_port parts.relation.grid) v link) in
    record {
      good = c.self.invariant.good;
      in_step = in_step_after own _ event c.self.invariant.in_step ready changed;
      within = within_after own _ event c.self.invariant.in_step c.self.invariant.within ready changed;
      routers = c.self.invariant.routers;
      beats = c.self.invariant.beats;
      room = c.self.invariant.room;
    }

pub returns : goal.returns
unfolding happens
returns c =
    let parts = c.self.inside.parts in
    let own = core_in parts in
    let event = Take c.args.router c.args.port in
    let ready = ready_here c.args.self.now own event c.self.view_is c.requires in
    let link = linked_port own.net c.args.router c.args.port (ready_take own c.args.router c.args.port ready).0 in
    room_changed parts c.args.router c.index_mut.result.now c.take.new.self (taking c.args.port) c.index_mut.ensures.value (λ v. c.take.ensures (local_port parts.relation.grid) v link)
    ∙ ap (λ (k : CoreState). happens k event) c.self.view_is
