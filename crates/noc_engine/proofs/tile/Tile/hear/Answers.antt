use Rattle.std.proofs.Common.{◌≡◌, ◌+◌, ◌∙◌, List, length, set as write, ap, subst, sym}
use Rattle.std.specs.Prelude.{slice_get}
use Rattle.std.specs.Vec.{with_items}
use Rattle.std.proofs.lemmas.List.{with_items_is}
use Rattle.noc_cycles.specs.Told.{HasHeard}
use Rattle.noc_cycles.specs.declared.block.Block.{Block}
use Rattle.noc_cycles.specs.declared.notes.Note.{Note}
use Rattle.noc_engine.proofs.HeardLemmas.{hears-told}
use Rattle.noc_engine.proofs.tile.Tile.hear.Goals as goal

pub returns : goal.returns
returns c = λ net plan n from words turns was ran is_told.
    let is = c.args.self.now in
    let told = c.args.told.now in
    let long : length c.hear.new.blocks ≡ length is.blocks.items = c.hear.auto.blocks ∙ ap length c.as_mut_slice.ensures.value in
    let next_blocks : (with_items is.blocks c.hear.new.blocks).items ≡ c.hear.new.blocks = with_items_is is.blocks c.hear.new.blocks (long ∙ sym is.blocks.ok.0) in
    hears-told net plan n from words turns was is ran told is_told (with_items is.blocks c.hear.new.blocks) _ (ap length next_blocks ∙ long) (ap (write is.left.items told.block) c.keep.ensures)
    (λ b old new before after.
    subst (λ (xs : List Note). HasHeard xs (is.first + b) old new) c.deref.ensures.value
    (c.hear.ensures b old new (ap (λ (xs : List Block). slice_get xs b) c.as_mut_slice.ensures.value ∙ before) (ap (λ (xs : List Block). slice_get xs b) (sym next_blocks) ∙ after)))
