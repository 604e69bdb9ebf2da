use Rattle.std.proofs.Common.{◌≡◌, ℕ, Bool, true, false, not, ◌&&◌, ◌||◌, Option, Some, None, is_none, is_some, take, get_or, refl, ap, ap₂, sym, ◌∙◌, arith}
use Rattle.std.proofs.lemmas.List.{get_or-take}
use Rattle.noc_topo.specs.Shape.{Grid, neighbour, local_port}
use Rattle.noc_packet.specs.declared.packet.Beat.{Beat}
use Rattle.noc_theory.specs.Core.{has_beat, is_linked, link_ports}
use Rattle.noc_wires.proofs.BelowLemmas.{all_all, all_more, one_not}
use Rattle.noc_wires.proofs.RoomLemmas.{lacks_one}
use Rattle.noc_wires.proofs.room.Room.has_all.Goals as goal

none-is : (beat : Option Beat) (none : Bool) → is_some beat ≡ not none → is_none beat ≡ none
none-is None true e = refl
none-is None false e = cc
none-is (Some beat) true e = cc
none-is (Some beat) false e = refl

pub loop-port-init : goal.loop-port-init
loop-port-init c = λ net grid. refl

pub returns-then-is_none-is_some : goal.returns-then-is_none-is_some
returns-then-is_none-is_some c = λ net grid.
    let router = c.args.router.now in
    let taken = c.args.self.now.taken in
    let port = c.loop-port.port in
    let count : link_ports net ≡ c.args.links = ap local_port grid ∙ sym c.requires.links in
    let here : (not (is_linked net router.site.node port) || has_beat (take c.args.links taken) port) ≡ false =
    lacks_one (is_linked net router.site.node port) (get_or (take c.args.links taken) port None)
    ∙ ap (λ beat. not (is_none beat && is_linked net router.site.node port)) (get_or-take c.args.links taken port None c.loop-port-test.true)
    ∙ ap (λ (g : Grid). not (is_none (get_or taken port None) && is_some (neighbour g router.site.node port))) grid
    ∙ ap not (ap₂ (λ a b. a && b) (none-is (get_or taken port None) c.is_none.result c.is_none.ensures) (sym (c.is_some.ensures ∙ ap is_some c.neighbour.ensures)) ∙ c.if-is_none-is_some.true) in
    sym (one_not (λ (port : ℕ). not (is_linked net router.site.node port) || has_beat (take c.args.links taken) port) (link_ports net) port (omega (arith, c.loop-port-test.true)) here)

pub loop-port-preserved : goal.loop-port-preserved
loop-port-preserved c = λ net grid.
    let router = c.args.router.now in
    let taken = c.args.self.now.taken in
    let port = c.loop-port.port in
    let count : link_ports net ≡ c.args.links = ap local_port grid ∙ sym c.requires.links in
    let here : (not (is_linked net router.site.node port) || has_beat (take c.args.links taken) port) ≡ true =
    lacks_one (is_linked net router.site.node port) (get_or (take c.args.links taken) port None)
    ∙ ap (λ beat. not (is_none beat && is_linked net router.site.node port)) (get_or-take c.args.links taken port None c.loop-port-test.true)
    ∙ ap (λ (g : Grid). not (is_none (get_or taken port None) && is_some (neighbour g router.site.node port))) grid
    ∙ ap not (ap₂ (λ a b. a && b) (none-is (get_or taken port None) c.is_none.result c.is_none.ensures) (sym (c.is_some.ensures ∙ ap is_some c.neighbour.ensures)) ∙ c.if-is_none-is_some.false) in
    all_more (λ (port : ℕ). not (is_linked net router.site.node port) || has_beat (take c.args.links taken) port) (link_ports net) port (omega (arith, c.loop-port-test.true)) (c.loop-port.invariant net grid) here

pub returns : goal.returns
returns c = λ net grid.
    let count : link_ports net ≡ c.args.links = ap local_port grid ∙ sym c.requires.links in
    sym (all_all (λ (port : ℕ). not (is_linked net c.args.router.now.site.node port) || has_beat (take c.args.links c.args.self.now.taken) port) (link_ports net) c.loop-port.port (omega (arith, c.loop-port-test.false)) (c.loop-port.invariant net grid))
