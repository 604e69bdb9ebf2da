use Rattle.std.proofs.Common.{◌≡◌, ℕ, ◌+◌, List, take, replicate, Option, None, false, ap, sym, ◌∙◌}
use Rattle.std.specs.Prelude.{if◌then◌else◌}
use Rattle.noc_packet.specs.declared.packet.Beat.{Beat}
use Rattle.noc_wires.specs.declared.room.Room.{Room}
use Rattle.noc_theory.specs.Core.{resting_post}
use Rattle.noc_wires.specs.Room.{post_of, wires_in}
use Rattle.noc_wires.proofs.RoomLemmas.{take_replicate}
use Rattle.noc_wires.proofs.room.Room.finish.Goals as goal

pub returns-then-have_none : goal.returns-then-have_none
returns-then-have_none c = λ net view links.
    let room = c.args.self.now in
    let none : take c.args.links (replicate 6 None) ≡ replicate c.args.links None = take_replicate c.args.links 6 None c.requires.few in
    let post = post_of c.args.links view room in
    ap (λ (new : Room). post_of c.args.links view (record new { wires = room.wires })) c.new.ensures
    ∙ ap (λ (beats : List (Option Beat)). record post { steps = room.steps + 1; taken = beats; decided = false; unput = beats }) (none ∙ ap (λ (n : ℕ). replicate n None) (sym links))
    ∙ sym (ap (λ b. if b then resting_post net view (room.steps + 1) (take c.args.links (wires_in room)) else post) (sym c.have_none.ensures ∙ c.if-have_none.true))
