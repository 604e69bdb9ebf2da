use Rattle.std.proofs.Common.{◌≡◌, ◌+◌, ◌<◌, ◌*◌, length, sym, ◌∙◌, subst, refl, arith}
use Rattle.std.proofs.lemmas.Option.{slice_get-get_or, slice_get_within}
use Rattle.noc_sets.specs.Unions.{some_below}
use Rattle.noc_engine.proofs.ListLemmas.{left-next}
use Rattle.noc_engine.proofs.TurnedLemmas.{idle_turns, turned-next, with_turns}
use Rattle.noc_engine.proofs.passes.turn_all.Goals as goal

pub loop-number-init : goal.loop-number-init
loop-number-init c = record {
  blocks = λ b l. refl;
  works = λ b l. refl;
  turned = λ net words may. (idle_turns words, record { each = λ b block work l. absurd (omega (arith, l)); happened_is = refl });
}

pub turn-happened-requires : goal.turn-happened-requires
turn-happened-requires c =
    let n = c.loop-number.number in
    let inv = c.loop-number.invariant in
    let may = c.requires.may in
    let l : n < length c.loop-number.blocks = omega arith in
    let m : n < length c.loop-number.works = let same = may.2.works_are in omega (arith, same) in
    (may.0, may.1, may.2.each n _ _ (sym (inv.blocks n (omega arith)) ∙ slice_get-get_or c.loop-number.blocks n _ l) (sym (inv.works n (omega arith)) ∙ slice_get-get_or c.loop-number.works n _ m))

pub loop-number-preserved : goal.loop-number-preserved
loop-number-preserved c =
    let n = c.loop-number.number in
    let inv = c.loop-number.invariant in
    let l : n < length c.loop-number.blocks = omega arith in
    let m : n < length c.loop-number.works = let same = c.requires.may.2.works_are in omega (arith, same) in
    record {
      blocks = left-next c.args.blocks.now c.loop-number.blocks n c.turn-happened.new.block inv.blocks;
      works = left-next c.args.works.now c.loop-number.works n c.turn-happened.new.work inv.works;
      turned = λ net words may.
          let before = inv.turned net words may in
          let here = c.turn-happened.ensures net words (may.each n _ _ (sym (inv.blocks n (omega arith)) ∙ slice_get-get_or c.loop-number.blocks n _ l) (sym (inv.works n (omega arith)) ∙ slice_get-get_or c.loop-number.works n _ m)) in (
            with_turns (c.args.first + n) before.0 here.0,
            turned-next net c.args.cycle.now.plan.now c.args.cycle.now.number c.args.first n words before.0 here.0 c.loop-number.blocks c.loop-number.works c.loop-number.left c.loop-number.happened c.turn-happened.new.block c.turn-happened.new.work c.turn-happened.new.left c.turn-happened.result l m
                (omega (arith, l, c.requires.left)) before.1 here.1,
          );
    }

pub returns : goal.returns
returns c = λ net words may.
    let t = c.loop-number.invariant.turned net words may in
    let all : c.loop-number.number ≡ length c.loop-number.blocks = omega arith in (
      t.0,
      record {
        each = λ b block work at on. t.1.each b block work (let l = slice_get_within c.loop-number.blocks b block at in omega (arith, l)) at on;
        happened_is = subst (λ k. c.loop-number.happened ≡ some_below (64 * k) (λ s. (t.0 (64 * c.args.first + s)).happened)) all t.1.happened_is;
      },
    )
