use Rattle.std.proofs.Common.{◌-◌, ◌%◌, ◌<◌, ◌∙◌, ap, lit<, refl, subst, sym}
use Rattle.noc_columns.proofs.PlaceLemmas.{zeros}
use Rattle.noc_cycles.proofs.AroundLemmas.{around-next, pushed, written}
use Rattle.noc_cycles.proofs.around.all_around.Goals as goal

pub invariant_of-push : goal.invariant_of-push
invariant_of-push c = record {
  near = λ k. subst (λ n. n < 64) (sym (zeros 72 k)) (lit< tt);
  turn = λ k. zeros 72 k ∙ ap (λ n. (64 - n) % 64) (sym (zeros 72 k));
}

pub loop-block-preserved : goal.loop-block-preserved
loop-block-preserved c =
    let g = c.args.shape.now in
    let n = c.loop-block.block in
    let all = c.loop-block.all.items in
    let items = c.push.new.self.items in
    let at = c.index_mut.result.now in
    around-next g c.args.vcs n all items _ c.find.new.self c.in_ok-push.ensures.items c.loop-block.invariant
    (written g c.args.vcs n _ at c.find.new.self (pushed all items _ at n c.loop-block.invariant.many c.in_ok-push.ensures.items c.index_mut.ensures.value) c.find.ensures.rest refl
    c.in_ok-far_by_port.ensures c.find.ensures.near c.find.ensures.ends)
