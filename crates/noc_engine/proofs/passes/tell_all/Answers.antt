use Rattle.std.proofs.Common.{◌≡◌, ◌+◌, ◌<◌, Some, length, arith}
use Rattle.std.specs.Prelude.{slice_get}
use Rattle.noc_engine.proofs.ExchangeLemmas.{are-notes, are-told, notes-next, room-next}
use Rattle.noc_engine.proofs.ListLemmas.{read}
use Rattle.noc_engine.proofs.passes.tell_all.Goals as goal

pub tell-requires-clause-told : goal.tell-requires-clause-told
tell-requires-clause-told c =
    let told = c.requires.told in
    let n = c.loop-number.number in
    let one = c.index-around.result.now in
    let block = c.index-blocks-number.result in
    let inside : c.args.first + n < length c.args.plan.now.around.items = omega (arith, c.requires.blocks) in
    (told.0.relation.grid, told.1, are-told told.0 c.args.plan.now told.2 told.3 (c.args.first + n) one (read c.args.plan.now.around.items (c.args.first + n) one inside c.index-around.ensures) block told.1 (λ r l. told.4 n r block (read c.args.blocks.now n block (omega arith) c.index-blocks-number.is) l))

pub tell-requires-clause-room : goal.tell-requires-clause-room
tell-requires-clause-room c = c.loop-number.invariant.room.each c.loop-number.number c.index-notes-number.result (omega arith)

pub loop-number-preserved : goal.loop-number-preserved
loop-number-preserved c =
    let n = c.loop-number.number in
    let inv = c.loop-number.invariant in
    let one = c.index-around.result.now in
    let block = c.index-blocks-number.result in
    let inside : c.args.first + n < length c.args.plan.now.around.items = omega (arith, c.requires.blocks) in
    let at : slice_get c.args.plan.now.around.items (c.args.first + n) ≡ Some one = read c.args.plan.now.around.items (c.args.first + n) one inside c.index-around.ensures in
    let low : n < length c.loop-number.notes = omega (arith, inv.room.many) in
    record {
      noted = λ net tells good is tell.
          notes-next net tells c.args.first n c.loop-number.notes c.tell.new.notes low
          (are-notes net c.args.plan.now good is (c.args.first + n) one at tells c.tell.new.notes.items
          (c.tell.ensures.notes net.relation.grid tells (are-told net c.args.plan.now good is (c.args.first + n) one at block tells (λ r l. tell n r block (read c.args.blocks.now n block (omega arith) c.index-blocks-number.is) l)))
          (omega (arith, c.tell.ensures.few, c.tell.new.notes.ok.0)))
          (inv.noted net tells good is tell);
      room = room-next (length c.args.blocks.now) n c.loop-number.notes c.tell.new.notes low (omega (arith, c.tell.ensures.room, inv.room.each n c.index-notes-number.result (omega arith))) inv.room;
    }

pub returns-clause-noted : goal.returns-clause-noted
returns-clause-noted c = λ net tells good is tell b l. c.loop-number.invariant.noted net tells good is tell b (omega (arith, l))
