use Rattle.std.proofs.Common.{◌+◌, ◌∙◌, arith}
use Rattle.std.proofs.lemmas.List.{get_or_default}
use Rattle.noc_steps.proofs.AnyLemmas.{taken-more}
use Rattle.noc_steps.proofs.reached.taken.Goals as goal

pub loop-input-init : goal.loop-input-init
loop-input-init c = λ k. c.empty-all.ensures.members k

pub loop-input-preserved : goal.loop-input-preserved
loop-input-preserved c =
    taken-more c.args.sets.now c.args.coming c.args.first c.loop-input.input c.loop-input.all c.either_if-all.result c.index-sets-first.result c.contains.result
    (c.index-sets-first.is ∙ get_or_default c.args.sets.now (c.args.first + c.loop-input.input) c.index-sets-first.result 0 (omega (arith, c.requires.sets, c.loop-input-test.true)))
    c.contains.ensures c.either_if-all.ensures c.loop-input.invariant
