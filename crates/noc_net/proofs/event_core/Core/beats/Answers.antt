use Rattle.std.proofs.Common.{◌≡◌, ◌<◌, ◌≤◌, [], Option, length, unwrap_or, option_map, ap, sym, subst, ◌∙◌, arith}
use Rattle.std.proofs.lemmas.List.{get_or-take, get_or_past}
use Rattle.noc_topo.specs.Shape.{local_port, nodes}
use Rattle.noc_theory.specs.declared.limits.TheConstants.{CYCLE_LIMIT}
use Rattle.noc_theory.specs.Core.{CoreState, Post, wire_at, wire_of}
use Rattle.noc_wires.specs.Room.{wires_in}
use Rattle.noc_net.specs.Stored.{core_in}
use Rattle.noc_theory.proofs.runs.CoreLemmas.{router_there}
use Rattle.noc_net.proofs.StoredLemmas.{post_of_room}
use Rattle.noc_net.proofs.event_core.Core.beats.Goals as goal

pub returns-then-port-links : goal.returns-then-port-links
returns-then-port-links c =
    let parts = c.self.inside.parts in
    let n = local_port parts.relation.grid in
    let count : c.links.result ≡ local_port c.self.inside.parts.relation.grid = c.links.ensures.value ∙ sym (ap (λ (k : CoreState). local_port k.net.relation.grid) c.self.view_is) in
    let l : c.args.router < nodes c.self.inside.parts.relation.grid = subst (λ (k : CoreState). c.args.router < nodes k.net.relation.grid) (sym c.self.view_is) c.requires.router in
    let at = post_of_room parts c.self.invariant.in_step c.self.invariant.routers c.self.invariant.room c.args.router l c.index.result.now c.index.ensures in
    let link : c.args.port < local_port c.self.inside.parts.relation.grid = omega (arith, c.if-port-links.true) in
    c.beats.ensures ∙ ap length (sym (get_or-take n (wires_in c.index.result.now) c.args.port [] link)
    ∙ sym (ap (λ (o : Option Post). unwrap_or (option_map (λ (post : Post). wire_of post c.args.port) o) []) at.1)
    ∙ ap (λ (k : CoreState). wire_at k c.args.router c.args.port) c.self.view_is)

pub returns-else-port-links : goal.returns-else-port-links
returns-else-port-links c =
    let parts = c.self.inside.parts in
    let own = core_in parts in
    let sound = c.self.invariant.in_step in
    let count : c.links.result ≡ local_port c.self.inside.parts.relation.grid = c.links.ensures.value ∙ sym (ap (λ (k : CoreState). local_port k.net.relation.grid) c.self.view_is) in
    let l : c.args.router < nodes c.self.inside.parts.relation.grid = subst (λ (k : CoreState). c.args.router < nodes k.net.relation.grid) (sym c.self.view_is) c.requires.router in
    let at = router_there CYCLE_LIMIT own sound c.args.router l in
    let past : local_port c.self.inside.parts.relation.grid ≤ c.args.port = omega (arith, c.if-port-links.false) in
    let none : wire_of at.0 c.args.port ≡ [] = get_or_past at.0.wires c.args.port [] (omega (arith, (sound.posts c.args.router at.0 at.1).wires)) in
    ap length (sym none ∙ sym (ap (λ (o : Option Post). unwrap_or (option_map (λ (post : Post). wire_of post c.args.port) o) []) at.1)
    ∙ ap (λ (k : CoreState). wire_at k c.args.router c.args.port) c.self.view_is)
