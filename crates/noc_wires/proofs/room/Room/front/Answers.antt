use Rattle.std.proofs.Common.{◌≡◌, ◌≢◌, ◌<◌, ◌≤◌, List, [], get_or, length, slice_get, take, replicate, unwrap_or, refl, ap, ap₂, sym, ◌∙◌, ⊎_elim, arith, length-set, length-take-le}
use Rattle.std.proofs.lemmas.Bool.{cases_lt}
use Rattle.std.proofs.lemmas.List.{get_or-map, get_or-set_other, get_or-take, get_or_past, length-map}
use Rattle.noc_packet.specs.declared.packet.Beat.{Beat}
use Rattle.noc_view.specs.View.{idle_beat}
use Rattle.noc_wires.specs.Room.{front_of, wire_beats, wires_in}
use Rattle.noc_wires.proofs.RoomLemmas.{each_more}
use Rattle.noc_theory.proofs.runs.WireLemmas.{get_or-idle}
use Rattle.noc_wires.proofs.room.Room.front.Goals as goal

pub loop-port-init : goal.loop-port-init
loop-port-init c = record {
  count = refl;
  before = λ port l. absurd (omega arith);
  behind = λ port l. ap (λ (beat : Beat). get_or (replicate 6 beat) port idle_beat) c.idle-beats.ensures ∙ get_or-idle 6 port;
}

pub loop-port-preserved : goal.loop-port-preserved
loop-port-preserved c =
    let room = c.args.self.now in
    let within : c.loop-port.port < length c.args.self.now.wires = omega (arith, c.loop-port-test.true, c.requires) in
    record {
      count = length-set c.loop-port.beats c.loop-port.port c.unwrap_or.result ∙ c.loop-port.invariant.count;
      before = each_more (λ port. front_of (get_or (wires_in room) port [])) c.loop-port.beats c.loop-port.port c.unwrap_or.result idle_beat
          (omega (arith, c.loop-port.invariant.count, c.loop-port-test.true, c.requires)) c.loop-port.invariant.before
          (c.unwrap_or.ensures
          ∙ ap₂ unwrap_or (c.pop.ensures.beat ∙ ap (λ (beats : List Beat). slice_get beats 0) (sym (get_or-map wire_beats room.wires c.loop-port.port _ [] within))) c.idle.ensures);
      behind = λ port l.
          let n : port ≢ c.loop-port.port = omega arith in
          get_or-set_other c.loop-port.beats c.loop-port.port port c.unwrap_or.result idle_beat n ∙ c.loop-port.invariant.behind port (omega arith);
    }

pub returns : goal.returns
returns c = λ port.
    let room = c.args.self.now in
    let links = c.args.links in
    let end : c.loop-port.port ≡ c.args.links = omega (arith, c.loop-port.auto.port-end, c.loop-port-test.false) in
    let count = length-map c.args.self.now.wires wire_beats in
    let whole : length (take c.args.links (wires_in c.args.self.now)) ≡ c.args.links = length-take-le links (wires_in room) (omega (arith, c.requires)) in
    ⊎_elim
    (λ (l : port < c.args.links). c.loop-port.invariant.before port (omega arith) ∙ sym (ap front_of (get_or-take links (wires_in room) port [] l)))
    (λ (past : c.args.links ≤ port). c.loop-port.invariant.behind port (omega arith) ∙ sym (ap front_of (get_or_past (take links (wires_in room)) port [] (omega arith))))
    (cases_lt port links)
