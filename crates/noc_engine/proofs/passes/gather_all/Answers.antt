use Rattle.std.proofs.Common.{◌≡◌, ◌+◌, ◌*◌, ◌<◌, length, arith}
use Rattle.std.proofs.lemmas.Option.{slice_get_within}
use Rattle.noc_cycles.specs.Held.{links_at}
use Rattle.noc_cycles.specs.declared.block.Work.{Work}
use Rattle.noc_engine.specs.Passes.{coming}
use Rattle.noc_engine.proofs.ExchangeLemmas.{has-gathered, wired}
use Rattle.noc_engine.proofs.ListLemmas.{one-more, read}
use Rattle.noc_engine.proofs.passes.gather_all.Goals as goal

pub gather_links-requires : goal.gather_links-requires
gather_links-requires c =
    let plan = c.requires.plan in
    let n = c.loop-number.number in
    let one = c.index-around.result.now in
    let inside : c.args.first + n < length c.args.plan.now.around.items = omega (arith, c.requires.works) in
    (plan.0.relation.grid, wired plan.0 c.args.plan.now plan.1 plan.2 (c.args.first + n) one (read c.args.plan.now.around.items (c.args.first + n) one inside c.index-around.ensures), omega (arith, plan.2.blocks, c.requires.left))

pub loop-number-preserved : goal.loop-number-preserved
loop-number-preserved c = λ net good is b r work m at l.
    let n = c.loop-number.number in
    let one = c.index-around.result.now in
    let plan = c.args.plan.now in
    let inside : c.args.first + n < length plan.around.items = omega (arith, c.requires.works) in
    one-more (λ k (x : Work). links_at plan.pattern.table.ports x.came r ≡ coming net plan.pattern.table.ports c.args.left.now (64 * (c.args.first + k) + r)) c.loop-number.works n _ (omega arith)
    (λ k x low there. c.loop-number.invariant net good is k r x low there l)
    (has-gathered net plan good is (c.args.first + n) one (read plan.around.items (c.args.first + n) one inside c.index-around.ensures) c.args.left.now c.gather_links.new.came
    (c.gather_links.ensures.brought net.relation.grid) (c.gather_links.ensures.nothing net.relation.grid) r l)
    b work m at

pub returns : goal.returns
returns c = λ net good is b r work at l. c.loop-number.invariant net good is b r work (let inside = slice_get_within c.loop-number.works b work at in omega (arith, inside)) at l
