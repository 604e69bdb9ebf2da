use Rattle.std.proofs.Common.{◌≡◌, ◌<◌, ◌≤◌, List, [], ◌∷◌, None, false, get_or, is_some, length, replicate, take, refl, ap, ◌∙◌, arith, length-set, length-take-le}
use Rattle.std.specs.Prelude.{if◌then◌else◌}
use Rattle.std.proofs.lemmas.List.{get_or-take, length-map}
use lib.Seq.{map-set}
use Rattle.noc_topo.specs.Shape.{neighbour, local_port}
use Rattle.noc_topo.proofs.ListLemmas.{tabulate-from_each}
use Rattle.noc_packet.specs.declared.packet.Beat.{Beat}
use Rattle.noc_view.specs.View.{idle_beat}
use Rattle.noc_wires.specs.declared.room.Room.{Room}
use Rattle.noc_wires.specs.Room.{opening_wires, wire_beats, wires_in}
use Rattle.noc_theory.proofs.runs.PostLemmas.{same_post}
use Rattle.noc_wires.proofs.RoomLemmas.{each_more, take_replicate}
use Rattle.noc_wires.proofs.room.Room.opened.Goals as goal

pub loop-port-init : goal.loop-port-init
loop-port-init c = record {
  steps = ap (λ (room : Room). room.steps) c.new-room.ensures;
  decided = ap (λ (room : Room). room.decided) c.new-room.ensures;
  taken = ap (λ (room : Room). room.taken) c.new-room.ensures;
  unput = ap (λ (room : Room). room.unput) c.new-room.ensures;
  count = ap (λ (room : Room). length room.wires) c.new-room.ensures;
  before = λ port l. absurd (omega arith);
}

pub loop-port-preserved : goal.loop-port-preserved
loop-port-preserved c =
    let room = c.loop-port.room in
    let site = c.args.router.now.site in
    let beats = c.args.beats.now in
    let port = c.loop-port.port in
    let old = c.loop-port.invariant in
    let wires = length-map c.loop-port.room.wires wire_beats in
    record {
      steps = old.steps;
      decided = old.decided;
      taken = old.taken;
      unput = old.unput;
      count = length-set room.wires port c.opened.result ∙ old.count;
      before = λ k l. ap (λ (ws : List (List Beat)). get_or ws k []) (map-set wire_beats room.wires port c.opened.result)
          ∙ each_more (λ k. if is_some (neighbour site.grid site.node k) then get_or beats k idle_beat ∷ [] else []) (wires_in room) port (wire_beats c.opened.result) []
          (omega (arith, old.count, c.loop-port-test.true, c.requires.few)) old.before
          (c.opened.ensures ∙ ap (λ b. if b then get_or beats port idle_beat ∷ [] else []) (c.is_some.ensures ∙ ap is_some c.neighbour.ensures)) k l;
    }

pub returns : goal.returns
returns c =
    let links = c.args.links in
    let site = c.args.router.now.site in
    let beats = c.args.beats.now in
    let kept = c.loop-port.invariant in
    let room = c.loop-port.room in
    let count = length-map c.loop-port.room.wires wire_beats in
    let end : c.loop-port.port ≡ c.args.links = omega (arith, c.loop-port.auto.port-end, c.loop-port-test.false) in
    let within : c.args.links ≤ length (wires_in c.loop-port.room) = omega (arith, c.loop-port.invariant.count, c.requires.few) in
    let wires : take links (wires_in room) ≡ opening_wires site.grid site.node beats =
    tabulate-from_each (local_port site.grid) (λ port. if is_some (neighbour site.grid site.node port) then get_or beats port idle_beat ∷ [] else []) (take links (wires_in room)) [] (length-take-le links (wires_in room) within ∙ c.requires.links)
    (λ port l.
    let l' : port < c.args.links = omega (arith, c.requires.links) in
    get_or-take links (wires_in room) port [] l' ∙ kept.before port (omega arith)) in
    same_post c.args.router.now c.args.router.now room.steps c.args.steps (take links (wires_in room)) (opening_wires site.grid site.node beats)
    (take links room.taken) (replicate links None) room.decided false (take links room.unput) (replicate links None)
    refl kept.steps wires (ap (take links) kept.taken ∙ take_replicate links 6 None c.requires.few) kept.decided (ap (take links) kept.unput ∙ take_replicate links 6 None c.requires.few)
