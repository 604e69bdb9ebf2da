use Rattle.std.proofs.Common.{◌≡◌, ◌+◌, ◌*◌, ◌/◌, ◌%◌, ◌∙◌, List, length, ap, arith, refl, subst, sym}
use Rattle.std.specs.Prelude.{slice_get}
use Rattle.std.specs.Vec.{with_items}
use Rattle.std.proofs.lemmas.List.{with_items_is}
use Rattle.noc_cycles.specs.declared.block.Block.{Block}
use Rattle.noc_cycles.specs.declared.block.Work.{Work}
use Rattle.noc_view.specs.Found.{finding_at}
use Rattle.noc_view.specs.declared.finding.Finding.{Finding}
use Rattle.noc_engine.specs.Finds.{found_at}
use Rattle.noc_engine.specs.Origins.{net_in}
use Rattle.noc_engine.specs.Shows.{has_block}
use Rattle.noc_engine.proofs.RunLemmas.{may-step}
use Rattle.noc_engine.proofs.StepLemmas.{blocks-are, found-are, hears-own, may-turn, none-near}
use Rattle.noc_engine.proofs.columns.Columns.step.Goals as goal

pub turn-requires : goal.turn-requires
turn-requires c =
    let all = c.args.self.now in
    let relation = c.args.relation.now in
    let words = c.requires.may.shows.0 in
    (net_in all.origin, all.tile.cycle, words, may-turn (net_in all.origin) relation all.tile.cycle words all (may-step relation 1 all (omega arith) c.requires.may))

pub find_all-requires : goal.find_all-requires
find_all-requires c =
    let all = c.args.self.now in
    let relation = c.args.relation.now in
    let net = net_in all.origin in
    let n = all.tile.cycle in
    let words = c.requires.may.shows.0 in
    let may = may-step relation 1 all (omega arith) c.requires.may in
    let turned = c.turn.ensures net n words (may-turn net relation n words all may) in
    let blocks : length c.deref.result.now ≡ length all.plan.around.items = ap length c.deref.ensures.value ∙ blocks-are net relation n words all may turned.0 c.turn.new.self turned.1 in
    record {
      works = ap length c.deref-2.ensures.value ∙ turned.1.ran.lists.works_are ∙ sym (ap length c.deref.ensures.value);
      blocks = omega (arith, c.requires.routers, may.shows.found_are, may.shows.tile.plan_is.blocks, blocks);
      places = omega (arith, c.requires.routers, ap length c.as_mut_slice.ensures.value);
    }

pub gather-requires : goal.gather-requires
gather-requires c =
    let all = c.args.self.now in
    let relation = c.args.relation.now in
    let net = net_in all.origin in
    let n = all.tile.cycle in
    let words = c.requires.may.shows.0 in
    let turned = c.turn.ensures net n words (may-turn net relation n words all (may-step relation 1 all (omega arith) c.requires.may)) in
    (net, n, has_block c.turn.new.self, words, turned.0, all.tile, c.hear_own.ensures net all.plan n words turned.0 all.tile turned.1.ran)

pub returns : goal.returns
returns c =
    let all = c.args.self.now in
    let relation = c.args.relation.now in
    let net = net_in all.origin in
    let n = all.tile.cycle in
    let words = c.requires.may.shows.0 in
    let may = may-step relation 1 all (omega arith) c.requires.may in
    let found_long : length c.find_all.new.found ≡ length all.found.items = c.find_all.auto.found ∙ ap length c.as_mut_slice.ensures.value in
    let next_found : (with_items all.found c.find_all.new.found).items ≡ c.find_all.new.found = with_items_is all.found c.find_all.new.found (found_long ∙ sym all.found.ok.0) in
    let turned = c.turn.ensures net n words (may-turn net relation n words all may) in
    let run = c.hear_own.ensures net all.plan n words turned.0 all.tile turned.1.ran in
    let has = c.gather.ensures net n (has_block c.turn.new.self) words turned.0 all.tile run (hears-own net relation n words all may turned.0 c.turn.new.self turned.1 c.hear_own.new.self run)
    (none-near net relation n words all may turned.0 c.turn.new.self turned.1 c.hear_own.new.self run) in
    record {
      stepped = record { words = words; next = has.0; may = may; stepped = record { origin_stays = refl; plan_stays = refl; found_are = ap length next_found ∙ found_long; tile = has.1 } };
      found = λ most.
          found-are net relation n words all may turned.0 c.turn.new.self turned.1 _ c.args.routers most has.1.shows.cycle
          (λ s block work l at doing i u. subst (λ (xs : List Finding). finding_at xs (s * 64 + i) ≡ found_at all.plan.pattern block work (s % 64) i) (sym next_found)
          (c.find_all.ensures s block work l (ap (λ (xs : List Block). slice_get xs (s / 64)) c.deref.ensures.value ∙ at) (ap (λ (xs : List Work). slice_get xs (s / 64)) c.deref-2.ensures.value ∙ doing) i u));
    }
