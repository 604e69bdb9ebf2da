use Rattle.std.proofs.Common.{◌≡◌, None, Option, get_or, unwrap_or, ap, ◌∙◌, length-set, arith}
use Rattle.noc_packet.specs.declared.packet.Beat.{Beat}
use Rattle.noc_view.specs.View.{idle_beat}
use Rattle.noc_wires.proofs.RoomLemmas.{each_more, map-from_each}
use Rattle.noc_wires.proofs.room.Room.beats_taken.Goals as goal

pub loop-port-preserved : goal.loop-port-preserved
loop-port-preserved c =
    let taken = c.args.self.now.taken in
    record {
      count = length-set c.loop-port.beats c.loop-port.port c.unwrap_or.result ∙ c.loop-port.invariant.count;
      before = each_more (λ port. unwrap_or (get_or taken port None) idle_beat) c.loop-port.beats c.loop-port.port c.unwrap_or.result idle_beat
          (omega (arith, c.loop-port.invariant.count)) c.loop-port.invariant.before
          (c.unwrap_or.ensures ∙ ap (unwrap_or (get_or taken c.loop-port.port None)) c.idle.ensures);
    }

pub returns : goal.returns
returns c =
    let l : c.loop-port.port ≡ 6 = omega (arith, c.loop-port.auto.port-end, c.loop-port-test.false) in
    map-from_each (λ (beat : Option Beat). unwrap_or beat idle_beat) c.args.self.now.taken c.loop-port.beats None idle_beat (omega (arith, c.loop-port.invariant.count))
    (λ port m. c.loop-port.invariant.before port (omega arith))
