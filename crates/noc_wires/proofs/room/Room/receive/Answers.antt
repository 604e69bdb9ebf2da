use Rattle.std.proofs.Common.{◌≡◌, ◌<◌, List, [], ◌∷◌, ◌++◌, length, take, set, get_or, ap, sym, ◌∙◌, arith}
use Rattle.noc_packet.specs.declared.packet.Beat.{Beat}
use Rattle.noc_wires.specs.Room.{post_of, wire_beats, wires_in}
use Rattle.noc_wires.proofs.RoomLemmas.{wires_set, wire_read}
use Rattle.noc_wires.proofs.room.Room.receive.Goals as goal

pub returns : goal.returns
returns c = λ links view l.
    let room = c.args.self.now in
    let port = c.args.port in
    let within : c.args.port < length c.args.self.now.wires = omega arith in
    let wire : get_or (take links (wires_in room)) port [] ≡ wire_beats (get_or room.wires port _) = wire_read links room.wires port _ l within in
    ap (λ (wires : List (List Beat)). record (post_of links view room) { wires = wires })
    (wires_set links room.wires port c.push.new.self ∙ ap (set (take links (wires_in room)) port) (c.push.ensures ∙ ap (λ (beats : List Beat). beats ++ c.args.beat ∷ []) (sym wire)))
