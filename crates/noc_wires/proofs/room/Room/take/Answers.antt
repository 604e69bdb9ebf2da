use Rattle.std.proofs.Common.{◌≡◌, ◌<◌, List, [], length, take, set, drop, get_or, slice_get, Option, ap, ap₂, sym, ◌∙◌, arith}
use Rattle.noc_packet.specs.declared.packet.Beat.{Beat}
use Rattle.noc_wires.specs.Room.{post_of, wire_beats, wires_in}
use Rattle.noc_wires.proofs.RoomLemmas.{take_set, wires_set, wire_read}
use Rattle.noc_wires.proofs.room.Room.take.Goals as goal

pub returns : goal.returns
returns c = λ links view l.
    let room = c.args.self.now in
    let port = c.args.port in
    let within : c.args.port < length c.args.self.now.wires = omega arith in
    let wire : get_or (take links (wires_in room)) port [] ≡ wire_beats (get_or room.wires port _) = wire_read links room.wires port _ l within in
    ap₂ (λ (wires : List (List Beat)) (taken : List (Option Beat)). record (post_of links view room) { wires = wires; taken = taken })
    (wires_set links room.wires port c.pop.new.self ∙ ap (set (take links (wires_in room)) port) (c.pop.ensures.rest ∙ ap (drop 1) (sym wire)))
    (take_set links room.taken port c.pop.result ∙ ap (set (take links room.taken) port) (c.pop.ensures.beat ∙ ap (λ (beats : List Beat). slice_get beats 0) (sym wire)))
