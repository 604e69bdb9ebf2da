use Rattle.std.proofs.Common.{◌≡◌, ◌∙◌, List, Some, ap, arith, length, sym}
use Rattle.std.specs.List.{slice_get}
use Rattle.noc_engine.specs.declared.exchange.Told.{Told}
use Rattle.noc_engine.proofs.ListLemmas.{read}
use Rattle.noc_workers.proofs.MailLemmas.{heard-all, heard-next}
use Rattle.noc_workers.proofs.mail.MailLetterTile.tell.Goals as goal

pub hear-requires : goal.hear-requires
hear-requires c =
    let r = c.requires in
    let k = c.loop-told.told-index in
    let one = c.told-item.result in
    let heard = c.loop-told.invariant r.0 r.1 r.2 r.3 r.4 r.5 r.6 in
    let there : slice_get c.args.self.now.told.items k ≡ Some one = ap (λ (xs : List Told). slice_get xs k) (sym c.deref-told-items.ensures.value) ∙ read c.deref-told-items.result.now k one c.loop-told-test.true c.told-item.is in
    (r.0, r.1, r.2, _, heard.words, heard.turns, r.4, heard.ran, r.6 k one there)

pub loop-told-init : goal.loop-told-init
loop-told-init c = λ net plan n from was heard mail. heard

pub loop-told-preserved : goal.loop-told-preserved
loop-told-preserved c = λ net plan n from was heard mail.
    let k = c.loop-told.told-index in
    let one = c.told-item.result in
    let before = c.loop-told.invariant net plan n from was heard mail in
    let there : slice_get c.args.self.now.told.items k ≡ Some one = ap (λ (xs : List Told). slice_get xs k) (sym c.deref-told-items.ensures.value) ∙ read c.deref-told-items.result.now k one c.loop-told-test.true c.told-item.is in
    heard-next net plan n from was c.hear.new.self c.args.self.now.told.items before.words before.turns k one there
    (c.hear.ensures net plan n _ before.words before.turns was before.ran (mail k one there))

pub returns : goal.returns
returns c = λ net plan n from was heard mail.
    let same = ap length c.deref-told-items.ensures.value in
    heard-all net plan n from was c.loop-told.tile c.args.self.now.told.items c.loop-told.told-index (omega (arith, same, c.loop-told-test.false)) (c.loop-told.invariant net plan n from was heard mail)
