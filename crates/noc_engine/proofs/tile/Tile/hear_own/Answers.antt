use Rattle.std.proofs.Common.{◌≡◌, ◌+◌, ◌<◌, ◌∙◌, List, false, length, ap, arith, subst, sym}
use Rattle.std.specs.Prelude.{slice_get}
use Rattle.std.specs.Vec.{with_items}
use Rattle.std.proofs.lemmas.List.{with_items_is}
use Rattle.noc_cycles.specs.Told.{notes_by}
use Rattle.noc_cycles.specs.declared.block.Block.{Block}
use Rattle.std.proofs.lemmas.Option.{slice_get_within}
use Rattle.noc_engine.specs.Tiles.{AreNotesOf, HasRunBlock}
use Rattle.noc_engine.proofs.ExchangeLemmas.{notes-at}
use Rattle.noc_engine.proofs.ListLemmas.{there}
use Rattle.noc_engine.proofs.HeardLemmas.{block-from, block-hears, hears-own, none-below, one-below, own_below}
use Rattle.noc_engine.proofs.tile.Tile.hear_own.Goals as goal

pub loop-number-init : goal.loop-number-init
loop-number-init c = λ net plan n words turns was ran b block counts at on.
    let is = c.args.self.now in
    block-from net plan n (is.first + b) (λ k. false) (own_below is 0) words turns block counts (λ k. sym (none-below is k)) (ran.blocks b block counts (ap (λ (xs : List Block). slice_get xs b) (sym c.as_mut_slice-blocks.ensures.value) ∙ at) on)

pub loop-number-preserved : goal.loop-number-preserved
loop-number-preserved c = λ net plan n words turns was ran b block counts at on.
    let is = c.args.self.now in
    let m = c.loop-number.number in
    let inside : m < length is.notes.items = omega (arith, c.loop-number-test.true, c.len-number-end.ensures, is.notes.ok.0) in
    let notes : c.deref.result.now ≡ notes_by is.notes.items m = c.deref.ensures.value ∙ notes-at is.notes.items m c.index.result.now c.index.result.now inside c.index.ensures in
    let old = there c.loop-number.blocks b (let low = slice_get_within c.hear.new.blocks b block at in omega (arith, low, c.hear.auto.blocks)) in
    block-hears net plan n (own_below is m) (own_below is (m + 1)) (is.first + m) (one-below is m) (is.first + b) words turns c.deref.result.now old.0 block counts
    (subst (AreNotesOf net n (is.first + m)) (sym notes) (ran.notes m (omega (arith, inside, ran.lists.room.many))))
    (c.hear.ensures b old.0 block old.1 at) (c.loop-number.invariant net plan n words turns was ran b old.0 counts old.1 on)

pub returns : goal.returns
returns c = λ net plan n words turns was ran.
    let is = c.args.self.now in
    let long : length c.loop-number.blocks ≡ length is.blocks.items = c.loop-number.auto.blocks ∙ ap length c.as_mut_slice-blocks.ensures.value in
    let next_blocks : (with_items is.blocks c.loop-number.blocks).items ≡ c.loop-number.blocks = with_items_is is.blocks c.loop-number.blocks (long ∙ sym is.blocks.ok.0) in
    let all : c.loop-number.number ≡ length is.blocks.items = omega (arith, c.loop-number-test.false, c.loop-number.auto.number-end, c.len-number-end.ensures, is.notes.ok.0, ran.lists.room.many) in
    hears-own net plan n words turns was is ran (with_items is.blocks c.loop-number.blocks) (ap length next_blocks ∙ long)
    (λ b block counts at on. subst (λ k. HasRunBlock net plan n (is.first + b) (own_below is k) words turns block counts) all (c.loop-number.invariant net plan n words turns was ran b block counts (ap (λ (xs : List Block). slice_get xs b) (sym next_blocks) ∙ at) on))
