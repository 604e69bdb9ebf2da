use Rattle.std.proofs.Common.{◌≡◌, ◌<◌, ap, sym, ◌∙◌, arith}
use Rattle.std.proofs.lemmas.Bool.{le-ltb}
use Rattle.noc_topo.specs.Shape.{local_port, nodes}
use Rattle.noc_view.specs.View.{Site}
use Rattle.noc_theory.specs.declared.event.Event.TheVariants.{Take, Decide, Put}
use Rattle.noc_theory.specs.declared.limits.TheConstants.{CYCLE_LIMIT}
use Rattle.noc_theory.specs.Core.{CoreState, holds_at, is_linked, is_ready, may_decide, may_put, may_take, post_at}
use Rattle.noc_wires.specs.Room.{post_of}
use Rattle.noc_net.specs.Stored.{core_in}
use Rattle.noc_net.proofs.StoredLemmas.{link_there, no_router, post_of_room, read_there, ready_there, router_site, unready}
use Rattle.noc_net.proofs.event_core.Core.is_ready.Goals as goal

pub index-requires : goal.index-requires
index-requires c =
    let own = core_in c.self.inside.parts in
    let link = link_there _ own c.self.view_is c.self.invariant.in_step c.in-Take.router c.in-Take.port (sym c.if-is_linked.true ∙ c.is_linked.ensures) in
    omega (arith, link.router, c.self.invariant.room)

pub may_take-requires : goal.may_take-requires
may_take-requires c =
    let own = core_in c.self.inside.parts in
    (link_there _ own c.self.view_is c.self.invariant.in_step c.in-Take.router c.in-Take.port (sym c.if-is_linked.true ∙ c.is_linked.ensures)).few

pub returns-then-is_linked : goal.returns-then-is_linked
unfolding is_ready
returns-then-is_linked c =
    let parts = c.self.inside.parts in
    let own = core_in parts in
    let link = link_there _ own c.self.view_is c.self.invariant.in_step c.in-Take.router c.in-Take.port (sym c.if-is_linked.true ∙ c.is_linked.ensures) in
    let at = post_of_room parts c.self.invariant.in_step c.self.invariant.routers c.self.invariant.room c.in-Take.router link.router c.index.result.now c.index.ensures in
    c.may_take.ensures (local_port parts.relation.grid) at.0 link.below ∙ ready_there own c.in-Take.router c.in-Take.port (may_take CYCLE_LIMIT c.in-Take.port) _ link.linked at.1
    ∙ ap (λ (k : CoreState). is_ready CYCLE_LIMIT k (Take c.in-Take.router c.in-Take.port)) c.self.view_is ∙ ap (is_ready CYCLE_LIMIT c.args.self.now) (sym c.in-Take.is)

pub returns-else-is_linked : goal.returns-else-is_linked
unfolding is_ready
returns-else-is_linked c =
    let k = c.args.self.now in
    let linked = is_linked k.net c.in-Take.router c.in-Take.port in
    c.if-is_linked.false ∙ unready linked (may_take CYCLE_LIMIT c.in-Take.port) (post_at k c.in-Take.router) (sym c.is_linked.ensures ∙ c.if-is_linked.false)
    ∙ ap (is_ready CYCLE_LIMIT k) (sym c.in-Take.is)

pub index-requires-then-is_linked-2 : goal.index-requires-then-is_linked-2
index-requires-then-is_linked-2 c =
    let own = core_in c.self.inside.parts in
    let link = link_there _ own c.self.view_is c.self.invariant.in_step c.in-Put.router c.in-Put.port (sym c.if-is_linked-2.true ∙ c.is_linked-in-Put.ensures) in
    omega (arith, link.router, c.self.invariant.room)

pub may_put-requires : goal.may_put-requires
may_put-requires c =
    let own = core_in c.self.inside.parts in
    (link_there _ own c.self.view_is c.self.invariant.in_step c.in-Put.router c.in-Put.port (sym c.if-is_linked-2.true ∙ c.is_linked-in-Put.ensures)).few

pub returns-then-is_linked-2 : goal.returns-then-is_linked-2
unfolding is_ready
returns-then-is_linked-2 c =
    let parts = c.self.inside.parts in
    let own = core_in parts in
    let link = link_there _ own c.self.view_is c.self.invariant.in_step c.in-Put.router c.in-Put.port (sym c.if-is_linked-2.true ∙ c.is_linked-in-Put.ensures) in
    let at = post_of_room parts c.self.invariant.in_step c.self.invariant.routers c.self.invariant.room c.in-Put.router link.router c.index-then-is_linked-2.result.now c.index-then-is_linked-2.ensures in
    c.may_put.ensures (local_port parts.relation.grid) at.0 link.below ∙ ready_there own c.in-Put.router c.in-Put.port (may_put c.in-Put.port) _ link.linked at.1
    ∙ ap (λ (k : CoreState). is_ready CYCLE_LIMIT k (Put c.in-Put.router c.in-Put.port)) c.self.view_is ∙ ap (is_ready CYCLE_LIMIT c.args.self.now) (sym c.in-Put.is)

pub returns-else-is_linked-2 : goal.returns-else-is_linked-2
unfolding is_ready
returns-else-is_linked-2 c =
    let k = c.args.self.now in
    let linked = is_linked k.net c.in-Put.router c.in-Put.port in
    c.if-is_linked-2.false ∙ unready linked (may_put c.in-Put.port) (post_at k c.in-Put.router) (sym c.is_linked-in-Put.ensures ∙ c.if-is_linked-2.false)
    ∙ ap (is_ready CYCLE_LIMIT k) (sym c.in-Put.is)

pub may_decide-requires-clause-links : goal.may_decide-requires-clause-links
may_decide-requires-clause-links c =
    let parts = c.self.inside.parts in
    let l : c.in-Decide.router < nodes c.self.inside.parts.relation.grid = omega (arith, c.self.invariant.routers, c.len.ensures) in
    let sound = c.self.invariant.in_step in
    let at_router = read_there parts.routers.items c.in-Decide.router c.index-then-router-len-2.result.now (omega (arith, c.self.invariant.routers, parts.routers.ok.0)) c.index-then-router-len-2.ensures in
    let at_room = read_there parts.room.items c.in-Decide.router c.index-then-router-len.result.now (omega (arith, c.self.invariant.room, parts.room.ok.0)) c.index-then-router-len.ensures in
    let site = router_site parts sound c.in-Decide.router c.index-then-router-len-2.result.now c.index-then-router-len.result.now at_router at_room in
    c.links.ensures.value ∙ sym (ap (λ (k : CoreState). local_port k.net.relation.grid) c.self.view_is) ∙ sym (ap (λ (s : Site). local_port s.grid) site)

pub returns-then-router-len : goal.returns-then-router-len
unfolding is_ready
returns-then-router-len c =
    let parts = c.self.inside.parts in
    let own = core_in parts in
    let n = local_port parts.relation.grid in
    let l : c.in-Decide.router < nodes c.self.inside.parts.relation.grid = omega (arith, c.self.invariant.routers, c.len.ensures) in
    let sound = c.self.invariant.in_step in
    let at_router = read_there parts.routers.items c.in-Decide.router c.index-then-router-len-2.result.now (omega (arith, c.self.invariant.routers, parts.routers.ok.0)) c.index-then-router-len-2.ensures in
    let at_room = read_there parts.room.items c.in-Decide.router c.index-then-router-len.result.now (omega (arith, c.self.invariant.room, parts.room.ok.0)) c.index-then-router-len.ensures in
    let site = router_site parts sound c.in-Decide.router c.index-then-router-len-2.result.now c.index-then-router-len.result.now at_router at_room in
    let count : c.links.result ≡ n = c.links.ensures.value ∙ sym (ap (λ (k : CoreState). local_port k.net.relation.grid) c.self.view_is) in
    let at = post_of_room parts sound c.self.invariant.routers c.self.invariant.room c.in-Decide.router l c.index-then-router-len.result.now c.index-then-router-len.ensures in
    c.may_decide.ensures own.net at.0 (sym (ap (λ (s : Site). s.grid) site))
    ∙ ap (λ (s : Site). may_decide CYCLE_LIMIT own.net s.node (post_of c.links.result at.0 c.index-then-router-len.result.now)) site
    ∙ ap (λ m. may_decide CYCLE_LIMIT own.net c.in-Decide.router (post_of m at.0 c.index-then-router-len.result.now)) count
    ∙ sym (ap (holds_at (may_decide CYCLE_LIMIT own.net c.in-Decide.router)) at.1)
    ∙ ap (λ (k : CoreState). is_ready CYCLE_LIMIT k (Decide c.in-Decide.router)) c.self.view_is ∙ ap (is_ready CYCLE_LIMIT c.args.self.now) (sym c.in-Decide.is)

pub returns-else-router-len : goal.returns-else-router-len
unfolding is_ready
returns-else-router-len c =
    let own = core_in c.self.inside.parts in
    le-ltb c.in-Decide.router c.len.result c.if-router-len.false ∙ sym (ap (holds_at (may_decide CYCLE_LIMIT own.net c.in-Decide.router)) (no_router own c.self.invariant.in_step c.in-Decide.router (omega (arith, c.self.invariant.routers, c.len.ensures))))
    ∙ ap (λ (k : CoreState). is_ready CYCLE_LIMIT k (Decide c.in-Decide.router)) c.self.view_is ∙ ap (is_ready CYCLE_LIMIT c.args.self.now) (sym c.in-Decide.is)
