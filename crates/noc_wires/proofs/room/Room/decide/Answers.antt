use Rattle.std.proofs.Common.{◌≡◌, ℕ, ◌<◌, ◌≤◌, List, Some, None, true, get_or, is_some, length, map, take, refl, ap, sym, ◌∙◌, arith, length-set, length-take-le}
use Rattle.std.specs.Prelude.{if◌then◌else◌}
use Rattle.std.proofs.lemmas.List.{get_or-take}
use Rattle.noc_topo.specs.Shape.{Grid, neighbour, local_port}
use Rattle.noc_topo.proofs.ListLemmas.{map_indexed-from_each}
use Rattle.noc_packet.specs.declared.packet.Beat.{Beat}
use Rattle.noc_view.specs.View.{idle_beat}
use Rattle.noc_wires.specs.declared.wire.Wire.{Wire}
use Rattle.noc_theory.specs.Core.{post_after_last_put, is_linked}
use Rattle.noc_wires.specs.Room.{unput_for, wire_beats, wires_in}
use Rattle.noc_theory.proofs.runs.PostLemmas.{same_post}
use Rattle.noc_wires.proofs.RoomLemmas.{each_more, then_some_is}
use Rattle.noc_wires.proofs.room.Room.decide.Goals as goal

pub loop-port-preserved : goal.loop-port-preserved
loop-port-preserved c =
    let room = c.loop-port.self in
    let site = c.args.router.now.site in
    let beats = c.args.beats.now in
    let port = c.loop-port.port in
    let old = c.loop-port.invariant in
    record {
      steps = old.steps;
      decided = old.decided;
      wires = old.wires;
      taken = old.taken;
      count = length-set room.unput port c.then_some.result ∙ old.count;
      before = each_more (λ k. if is_some (neighbour site.grid site.node k) then Some (get_or beats k idle_beat) else None) room.unput port c.then_some.result None
          (omega (arith, old.count, c.loop-port-test.true, c.requires.few)) old.before
          (c.then_some.ensures ∙ then_some_is c.is_some.result (get_or beats port idle_beat) ∙ ap (λ b. if b then Some (get_or beats port idle_beat) else None) (c.is_some.ensures ∙ ap is_some c.neighbour.ensures));
    }

pub returns : goal.returns
returns c = λ net view grid.
    let links = c.args.links in
    let room = c.loop-port.self in
    let site = c.args.router.now.site in
    let beats = c.args.beats.now in
    let kept = c.loop-port.invariant in
    let end : c.loop-port.port ≡ c.args.links = omega (arith, c.loop-port.auto.port-end, c.loop-port-test.false) in
    let unput_within : c.args.links ≤ length c.loop-port.self.unput = omega (arith, kept.count, c.requires.few) in
    let beats_within : c.args.links ≤ length c.args.beats.now = omega (arith, c.told-beats, c.requires.few) in
    let count : length (take c.args.links c.args.beats.now) ≡ c.args.links = length-take-le links beats beats_within in
    let unput : take links room.unput ≡ unput_for net site.node (take links beats) =
    map_indexed-from_each (λ (port : ℕ) (beat : Beat). if is_linked net site.node port then Some beat else None) (take links beats) (take links room.unput) idle_beat None
    (length-take-le links room.unput unput_within ∙ sym count)
    (λ port l.
    let l' : port < c.args.links = omega arith in
    get_or-take links room.unput port None l'
    ∙ kept.before port (omega arith)
    ∙ ap (λ beat. if is_some (neighbour site.grid site.node port) then Some beat else None) (sym (get_or-take links beats port idle_beat l'))
    ∙ ap (λ (g : Grid). if is_some (neighbour g site.node port) then Some (get_or (take links beats) port idle_beat) else None) (sym grid)) in
    c.finish.ensures net view (ap local_port grid ∙ sym c.requires.links)
    ∙ ap (post_after_last_put net) (same_post view view room.steps c.args.self.now.steps (take links (wires_in room)) (take links (wires_in c.args.self.now))
    (take links room.taken) (take links c.args.self.now.taken) room.decided true (take links room.unput) (unput_for net site.node (take links beats))
    refl kept.steps (ap (λ (wires : List Wire). take links (map wire_beats wires)) kept.wires) (ap (take links) kept.taken) kept.decided unput)
