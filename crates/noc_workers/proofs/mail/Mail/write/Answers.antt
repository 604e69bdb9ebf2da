use Rattle.std.proofs.Common.{◌≡◌, ◌∙◌, ℕ, ◌<◌, Some, ap, arith, length, refl, sym}
use Rattle.std.specs.List.{slice_get}
use Rattle.std.proofs.lemmas.List.{length-set}
use Rattle.std.proofs.lemmas.Option.{slice_get-get_or, slice_get_within}
use Rattle.noc_engine.specs.Tiles.{IsTold}
use Rattle.noc_engine.specs.declared.exchange.Told.{Told}
use Rattle.noc_workers.proofs.MailLemmas.{all-done, each-next, same-blocks}
use Rattle.noc_workers.proofs.mail.Mail.write.Goals as goal

pub tell-requires : goal.tell-requires
tell-requires c =
    let r = c.requires.ran in
    record { block = c.requires.own c.loop-k.k 0 c.loop-k-test.true; ran = (r.0, r.1, r.2, r.3, r.5.words, r.5.turns, r.4, r.5.ran) }

pub loop-k-init : goal.loop-k-init
loop-k-init c = record {
  start = refl;
  places = c.requires.places;
  blocks = λ j one l. absurd (omega (arith, l));
  are = λ net plan n from was heard j one l. absurd (omega (arith, l));
}

pub loop-k-preserved : goal.loop-k-preserved
loop-k-preserved c =
    let v = c.loop-k.invariant in
    let k = c.loop-k.k in
    let blocks = c.args.blocks.now in
    let told = c.loop-k.self.told.items in
    let new = c.tell.new.told in
    let within : k < length told = omega (arith, v.places, c.loop-k-test.true) in
    record {
      start = v.start;
      places = length-set told k new ∙ v.places;
      blocks = each-next (λ (j : ℕ) (one : Told). slice_get blocks j ≡ Some one.block) told k new within v.blocks (slice_get-get_or blocks k 0 c.loop-k-test.true ∙ ap Some (sym c.tell.ensures.block));
      are = λ net plan n from was heard. each-next (λ (j : ℕ) (one : Told). IsTold net plan n one) told k new within (v.are net plan n from was heard) (c.tell.ensures.told net plan n from heard.words heard.turns was heard.ran);
    }

pub returns-clause-blocks : goal.returns-clause-blocks
returns-clause-blocks c =
    let v = c.loop-k.invariant in
    let told = c.loop-k.self.told.items in
    same-blocks told c.args.blocks.now v.places (λ j one is. v.blocks j one (all-done j _ _ _ (slice_get_within told j one is) v.places c.loop-k-test.false) is)

pub returns-clause-is : goal.returns-clause-is
returns-clause-is c = λ net plan n from was heard j one is.
    let v = c.loop-k.invariant in
    v.are net plan n from was heard j one (all-done j _ _ _ (slice_get_within c.loop-k.self.told.items j one is) v.places c.loop-k-test.false) is
