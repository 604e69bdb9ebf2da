use Rattle.std.proofs.Common.{◌≡◌, ◌-◌, ◌∙◌, length, ap, arith, refl}
use Rattle.noc_cycles.specs.Told.{notes_by}
use Rattle.noc_engine.proofs.ExchangeLemmas.{notes-at}
use Rattle.noc_engine.proofs.HeardLemmas.{index-within, is-told, notes-are}
use Rattle.noc_engine.proofs.WholeLemmas.{block-is}
use Rattle.noc_engine.proofs.tile.Tile.tell.Goals as goal

pub index-requires : goal.index-requires
index-requires c =
    let ran = c.requires.ran in
    let is = c.args.self.now in
    let here = index-within ran.0 ran.1 ran.2 ran.3 ran.4 ran.5 ran.6 is ran.7 c.args.block c.requires.block in
    omega (arith, here.0, is.left.ok.0)

pub overflow_sub-block : goal.overflow_sub-block
overflow_sub-block c = let inside = block-is c.args.self.now c.args.block c.requires.block in omega (arith, inside.0)

pub index-requires-2 : goal.index-requires-2
index-requires-2 c =
    let ran = c.requires.ran in
    let is = c.args.self.now in
    let here = index-within ran.0 ran.1 ran.2 ran.3 ran.4 ran.5 ran.6 is ran.7 c.args.block c.requires.block in
    omega (arith, here.1, is.notes.ok.0)

pub copy-requires : goal.copy-requires
copy-requires c =
    let ran = c.requires.ran in
    let is = c.args.self.now in
    let here = index-within ran.0 ran.1 ran.2 ran.3 ran.4 ran.5 ran.6 is ran.7 c.args.block c.requires.block in
    let few = (notes-are ran.0 ran.1 ran.2 ran.3 ran.4 ran.5 ran.6 is ran.7 c.args.block c.requires.block).few in
    let same : c.deref.result.now ≡ notes_by is.notes.items (c.args.block - is.first) = c.deref.ensures.value ∙ notes-at is.notes.items (c.args.block - is.first) c.index-2.result.now c.index-2.result.now here.1 c.index-2.ensures in
    omega (arith, few, ap length same, c.args.told.now.room)

pub returns-clause-told : goal.returns-clause-told
returns-clause-told c = λ net plan n from words turns was ran.
    let is = c.args.self.now in
    let here = index-within net plan n from words turns was is ran c.args.block c.requires.block in
    is-told net plan n from words turns was is ran c.args.block c.requires.block _ c.index.result.now refl c.keep.ensures c.index.ensures
    (c.copy.ensures.same ∙ c.deref.ensures.value ∙ notes-at is.notes.items (c.args.block - is.first) c.index-2.result.now c.index-2.result.now here.1 c.index-2.ensures)
