use Rattle.std.proofs.Common.{◌≡◌, ◌<◌, None, Option, Some, get_or, is_some, unwrap_or, ap, sym, subst, ◌∙◌, arith}
use Rattle.std.proofs.lemmas.Bool.{false≢true}
use Rattle.std.proofs.lemmas.List.{get_or-take}
use Rattle.noc_topo.specs.Shape.{local_port}
use Rattle.noc_topo.proofs.LinkLemmas.{link_back}
use Rattle.noc_packet.specs.declared.packet.Beat.{Beat}
use Rattle.noc_view.specs.View.{Site, idle_beat}
use Rattle.noc_theory.specs.declared.event.Event.TheVariants.{Put}
use Rattle.noc_theory.specs.declared.limits.TheConstants.{CYCLE_LIMIT}
use Rattle.noc_theory.specs.Core.{CoreState, Post, beat_to_send, happens, post_at, putting}
use Rattle.noc_net.specs.Parts.{setup_in}
use Rattle.noc_wires.specs.Room.{post_of}
use Rattle.noc_net.specs.Stored.{core_in}
use Rattle.noc_theory.proofs.runs.CoreLemmas.{get_some, router_within}
use Rattle.noc_theory.proofs.runs.EventLemmas.{linked_port}
use Rattle.noc_net.proofs.StoredLemmas.{few_links, in_step_after, within_after, place_of_link, put_changed, read_at, read_there, ready_here, ready_put, room_at_end, router_site}
use Rattle.noc_net.proofs.event_core.Core.put.Goals as goal

pub index-requires : goal.index-requires
index-requires c =
    let own = core_in c.self.inside.parts in
    let ready = ready_put own c.args.router c.args.port (ready_here c.args.self.now own (Put c.args.router c.args.port) c.self.view_is c.requires) in
    omega (arith, router_within CYCLE_LIMIT own c.self.invariant.in_step c.args.router ready.1.0 ready.1.1, c.self.invariant.routers)

pub index_mut-requires : goal.index_mut-requires
index_mut-requires c =
    let own = core_in c.self.inside.parts in
    let ready = ready_put own c.args.router c.args.port (ready_here c.args.self.now own (Put c.args.router c.args.port) c.self.view_is c.requires) in
    omega (arith, router_within CYCLE_LIMIT own c.self.invariant.in_step c.args.router ready.1.0 ready.1.1, c.self.invariant.room)

pub neighbour-to-requires : goal.neighbour-to-requires
neighbour-to-requires c =
    let parts = c.self.inside.parts in
    let own = core_in parts in
    let sound = c.self.invariant.in_step in
    let ready = ready_put own c.args.router c.args.port (ready_here c.args.self.now own (Put c.args.router c.args.port) c.self.view_is c.requires) in
    let l = router_within CYCLE_LIMIT own sound c.args.router ready.1.0 ready.1.1 in
    let room = get_some parts.room.items c.args.router (omega (arith, c.self.invariant.room, parts.room.ok.0)) in
    let at_router = read_there parts.routers.items c.args.router c.index.result.now (omega (arith, c.self.invariant.routers, parts.routers.ok.0)) c.index.ensures in
    let site = router_site parts sound c.args.router c.index.result.now room.0 at_router room.1 in
    subst (λ (s : Site). c.args.port < local_port s.grid) (sym site) (linked_port own.net c.args.router c.args.port ready.0)

pub put-beat-requires-clause-port : goal.put-beat-requires-clause-port
put-beat-requires-clause-port c =
    let own = core_in c.self.inside.parts in
    let ready = ready_put own c.args.router c.args.port (ready_here c.args.self.now own (Put c.args.router c.args.port) c.self.view_is c.requires) in
    let count : c.links-links.result ≡ local_port c.self.inside.parts.relation.grid = c.links-links.ensures.value ∙ sym (ap (λ (k : CoreState). local_port k.net.relation.grid) c.self.view_is) in
    omega (arith, linked_port own.net c.args.router c.args.port ready.0)

pub put-beat-requires-clause-steps : goal.put-beat-requires-clause-steps
put-beat-requires-clause-steps c =
    let parts = c.self.inside.parts in
    let own = core_in parts in
    let sound = c.self.invariant.in_step in
    let ready = ready_put own c.args.router c.args.port (ready_here c.args.self.now own (Put c.args.router c.args.port) c.self.view_is c.requires) in
    let read = read_at parts sound c.self.invariant.routers c.self.invariant.room c.args.router ready.1.0 ready.1.1 c.index.result.now c.index.ensures c.index_mut.result.now c.index_mut.ensures.value in
    let in_step = sound.posts c.args.router ready.1.0 ready.1.1 in
    subst (λ (post : Post). post.steps < CYCLE_LIMIT) read.is (in_step.below_limit (in_step.some_unput c.args.port ready.1.2))

pub index_mut-requires-in-Some : goal.index_mut-requires-in-Some
index_mut-requires-in-Some c =
    let parts = c.self.inside.parts in
    let own = core_in parts in
    let sound = c.self.invariant.in_step in
    let ready = ready_put own c.args.router c.args.port (ready_here c.args.self.now own (Put c.args.router c.args.port) c.self.view_is c.requires) in
    let read = read_at parts sound c.self.invariant.routers c.self.invariant.room c.args.router ready.1.0 ready.1.1 c.index.result.now c.index.ensures c.index_mut.result.now c.index_mut.ensures.value in
    let leads : c.neighbour-to.result ≡ Some (c.in-Some.node, c.in-Some.entry) = cc in
    let to = place_of_link parts c.args.router c.args.port c.index.result.now c.neighbour-to.result read.site c.neighbour-to.ensures ∙ leads in
    let back = link_back parts.relation.grid c.args.router c.args.port c.in-Some.node c.in-Some.entry sound.grid read.router to in
    omega (arith, back.node, c.self.invariant.room)

pub receive-requires-clause-port : goal.receive-requires-clause-port
receive-requires-clause-port c =
    let parts = c.self.inside.parts in
    let own = core_in parts in
    let sound = c.self.invariant.in_step in
    let ready = ready_put own c.args.router c.args.port (ready_here c.args.self.now own (Put c.args.router c.args.port) c.self.view_is c.requires) in
    let read = read_at parts sound c.self.invariant.routers c.self.invariant.room c.args.router ready.1.0 ready.1.1 c.index.result.now c.index.ensures c.index_mut.result.now c.index_mut.ensures.value in
    let leads : c.neighbour-to.result ≡ Some (c.in-Some.node, c.in-Some.entry) = cc in
    let to = place_of_link parts c.args.router c.args.port c.index.result.now c.neighbour-to.result read.site c.neighbour-to.ensures ∙ leads in
    let back = link_back parts.relation.grid c.args.router c.args.port c.in-Some.node c.in-Some.entry sound.grid read.router to in
    omega (arith, back.port, few_links own sound)

pub receive-requires-clause-room : goal.receive-requires-clause-room
receive-requires-clause-room c =
    let parts = c.self.inside.parts in
    let own = core_in parts in
    let sound = c.self.invariant.in_step in
    let ready = ready_put own c.args.router c.args.port (ready_here c.args.self.now own (Put c.args.router c.args.port) c.self.view_is c.requires) in
    let read = read_at parts sound c.self.invariant.routers c.self.invariant.room c.args.router ready.1.0 ready.1.1 c.index.result.now c.index.ensures c.index_mut.result.now c.index_mut.ensures.value in
    let leads : c.neighbour-to.result ≡ Some (c.in-Some.node, c.in-Some.entry) = cc in
    let to = place_of_link parts c.args.router c.args.port c.index.result.now c.neighbour-to.result read.site c.neighbour-to.ensures ∙ leads in
    let count : local_port c.self.inside.parts.relation.grid ≡ c.links-links.result = sym (c.links-links.ensures.value ∙ sym (ap (λ (k : CoreState). local_port k.net.relation.grid) c.self.view_is)) in
    room_at_end parts c.args.router c.args.port c.in-Some.node c.in-Some.entry ready.1.0 c.index_mut.result.now c.put-beat.new.self c.index_mut-in-Some.result.now sound
    (omega (arith, c.self.invariant.room, parts.room.ok.0)) (omega (arith, c.self.invariant.routers, parts.routers.ok.0)) ready.1.1 ready.1.2 to c.index_mut.ensures.value
    (λ v. ap (λ n. post_of n v c.put-beat.new.self) count ∙ c.put-beat.ensures.post (setup_in parts) v count ∙ ap (λ n. putting (setup_in parts) c.args.port (post_of n v c.index_mut.result.now)) (sym count))
    c.index_mut-in-Some.ensures.value

pub invariant_of-self : goal.invariant_of-self
invariant_of-self c =
    let parts = c.self.inside.parts in
    let own = core_in parts in
    let sound = c.self.invariant.in_step in
    let here = ready_here c.args.self.now own (Put c.args.router c.args.port) c.self.view_is c.requires in
    let ready = ready_put own c.args.router c.args.port here in
    let read = read_at parts sound c.self.invariant.routers c.self.invariant.room c.args.router ready.1.0 ready.1.1 c.index.result.now c.index.ensures c.index_mut.result.now c.index_mut.ensures.value in
    let leads : c.neighbour-to.result ≡ Some (c.in-Some.node, c.in-Some.entry) = cc in
    let to = place_of_link parts c.args.router c.args.port c.index.result.now c.neighbour-to.result read.site c.neighbour-to.ensures ∙ leads in
    let back = link_back parts.relation.grid c.args.router c.args.port c.in-Some.node c.in-Some.entry sound.grid read.router to in
    let n = local_port parts.relation.grid in
    let count : local_port c.self.inside.parts.relation.grid ≡ c.links-links.result = sym (c.links-links.ensures.value ∙ sym (ap (λ (k : CoreState). local_port k.net.relation.grid) c.self.view_is)) in
    let beat : c.put-beat.result ≡ beat_to_send c.args.port (post_at own c.args.router) =
    c.put-beat.ensures.beat
    ∙ sym (ap (beat_to_send c.args.port) ready.1.1 ∙ ap (λ (post : Post). unwrap_or (get_or post.unput c.args.port None) idle_beat) read.is
    ∙ ap (λ (one : Option Beat). unwrap_or one idle_beat) (get_or-take n c.index_mut.result.now.unput c.args.port None (linked_port own.net c.args.router c.args.port ready.0))) in
    let changed =
    put_changed parts c.args.router c.args.port c.in-Some.node c.in-Some.entry c.put-beat.result c.index_mut.result.now c.put-beat.new.self c.index_mut-in-Some.result.now c.receive.new.self to
    c.index_mut.ensures.value
    (λ v. ap (λ n. post_of n v c.put-beat.new.self) count ∙ c.put-beat.ensures.post (setup_in parts) v count ∙ ap (λ n. putting (setup_in parts) c.args.port (post_of n v c.index_mut.result.now)) (sym count))
    c.index_mut-in-Some.ensures.value (λ v. c.receive.ensures n v back.port) beat in
    record {
      good = c.self.invariant.good;
      in_step = in_step_after own _ (Put c.args.router c.args.port) sound here changed;
      within = within_after own _ (Put c.args.router c.args.port) sound c.self.invariant.within here changed;
      routers = c.self.invariant.routers;
      beats = c.self.invariant.beats;
      room = c.self.invariant.room;
    }

pub returns-in-Some : goal.returns-in-Some
returns-in-Some c =
    let parts = c.self.inside.parts in
    let own = core_in parts in
    let sound = c.self.invariant.in_step in
    let here = ready_here c.args.self.now own (Put c.args.router c.args.port) c.self.view_is c.requires in
    let ready = ready_put own c.args.router c.args.port here in
    let read = read_at parts sound c.self.invariant.routers c.self.invariant.room c.args.router ready.1.0 ready.1.1 c.index.result.now c.index.ensures c.index_mut.result.now c.index_mut.ensures.value in
    let leads : c.neighbour-to.result ≡ Some (c.in-Some.node, c.in-Some.entry) = cc in
    let to = place_of_link parts c.args.router c.args.port c.index.result.now c.neighbour-to.result read.site c.neighbour-to.ensures ∙ leads in
    let back = link_back parts.relation.grid c.args.router c.args.port c.in-Some.node c.in-Some.entry sound.grid read.router to in
    let n = local_port parts.relation.grid in
    let count : local_port c.self.inside.parts.relation.grid ≡ c.links-links.result = sym (c.links-links.ensures.value ∙ sym (ap (λ (k : CoreState). local_port k.net.relation.grid) c.self.view_is)) in
    let beat : c.put-beat.result ≡ beat_to_send c.args.port (post_at own c.args.router) =
    c.put-beat.ensures.beat
    ∙ sym (ap (beat_to_send c.args.port) ready.1.1 ∙ ap (λ (post : Post). unwrap_or (get_or post.unput c.args.port None) idle_beat) read.is
    ∙ ap (λ (one : Option Beat). unwrap_or one idle_beat) (get_or-take n c.index_mut.result.now.unput c.args.port None (linked_port own.net c.args.router c.args.port ready.0))) in
    put_changed parts c.args.router c.args.port c.in-Some.node c.in-Some.entry c.put-beat.result c.index_mut.result.now c.put-beat.new.self c.index_mut-in-Some.result.now c.receive.new.self to
    c.index_mut.ensures.value
    (λ v. ap (λ n. post_of n v c.put-beat.new.self) count ∙ c.put-beat.ensures.post (setup_in parts) v count ∙ ap (λ n. putting (setup_in parts) c.args.port (post_of n v c.index_mut.result.now)) (sym count))
    c.index_mut-in-Some.ensures.value (λ v. c.receive.ensures n v back.port) beat
    ∙ ap (λ (k : CoreState). happens k (Put c.args.router c.args.port)) c.self.view_is

pub invariant_of-self-in_default : goal.invariant_of-self-in_default
invariant_of-self-in_default c =
    let parts = c.self.inside.parts in
    let own = core_in parts in
    let sound = c.self.invariant.in_step in
    let ready = ready_put own c.args.router c.args.port (ready_here c.args.self.now own (Put c.args.router c.args.port) c.self.view_is c.requires) in
    let read = read_at parts sound c.self.invariant.routers c.self.invariant.room c.args.router ready.1.0 ready.1.1 c.index.result.now c.index.ensures c.index_mut.result.now c.index_mut.ensures.value in
    let to = place_of_link parts c.args.router c.args.port c.index.result.now c.neighbour-to.result read.site c.neighbour-to.ensures in
    let none : c.neighbour-to.result ≡ None = cc in
    absurd (false≢true (sym (ap is_some (to ∙ none)) ∙ ready.0))

pub returns-in_default : goal.returns-in_default
returns-in_default c =
    let parts = c.self.inside.parts in
    let own = core_in parts in
    let sound = c.self.invariant.in_step in
    let ready = ready_put own c.args.router c.args.port (ready_here c.args.self.now own (Put c.args.router c.args.port) c.self.view_is c.requires) in
    let read = read_at parts sound c.self.invariant.routers c.self.invariant.room c.args.router ready.1.0 ready.1.1 c.index.result.now c.index.ensures c.index_mut.result.now c.index_mut.ensures.value in
    let to = place_of_link parts c.args.router c.args.port c.index.result.now c.neighbour-to.result read.site c.neighbour-to.ensures in
    let none : c.neighbour-to.result ≡ None = cc in
    absurd (false≢true (sym (ap is_some (to ∙ none)) ∙ ready.0))
