use Rattle.std.proofs.Common.{ap, ◌∙◌, None, Option, List}
use Rattle.noc_packet.specs.declared.packet.Beat.{Beat}
use Rattle.noc_theory.specs.Core.{post_after_last_put}
use Rattle.noc_wires.specs.Room.{post_of}
use Rattle.noc_wires.proofs.RoomLemmas.{take_set}
use Rattle.noc_wires.proofs.room.Room.put.Goals as goal

pub returns-clause-post : goal.returns-clause-post
returns-clause-post c = λ net view links.
    let room = c.args.self.now in
    c.finish.ensures net view links
    ∙ ap (λ (unput : List (Option Beat)). post_after_last_put net (record (post_of c.args.links view room) { unput = unput })) (take_set c.args.links room.unput c.args.port None)
