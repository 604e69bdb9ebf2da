use Rattle.std.proofs.Common.{◌≡◌, ◌∙◌, sym, arith, get_or, below_more}
use Rattle.noc_route.proofs.NamedLemmas.{dor_port-found, dor_port-missing}
use Rattle.noc_route.proofs.named.dor_port.Goals as goal

pub returns-then-goes_up : goal.returns-then-goes_up
returns-then-goes_up c = λ r t e f.
    dor_port-found c.args.map.now.sizes.shape c.args.here.now c.args.there.now c.args.map.now.last r t c.loop-i.i _ c.args.map.now.sizes.grid e f c.args.map.now.corner c.loop-i-test.true
    c.loop-i.invariant c.if-here-i.true (sym c.goes_up.ensures ∙ c.if-goes_up.true)

pub returns-else-goes_up : goal.returns-else-goes_up
returns-else-goes_up c = λ r t e f.
    dor_port-found c.args.map.now.sizes.shape c.args.here.now c.args.there.now c.args.map.now.last r t c.loop-i.i _ c.args.map.now.sizes.grid e f c.args.map.now.corner c.loop-i-test.true
    c.loop-i.invariant c.if-here-i.true (sym c.goes_up.ensures ∙ c.if-goes_up.false)

pub loop-i-preserved : goal.loop-i-preserved
loop-i-preserved c = λ k l. below_more (λ k. get_or c.args.here.now k 0 ≡ get_or c.args.there.now k 0) c.loop-i.i c.loop-i.invariant c.if-here-i.false k l

pub returns : goal.returns
returns c = λ r t e f.
    dor_port-missing c.args.map.now.sizes.shape c.args.here.now c.args.there.now r t c.args.map.now.sizes.grid e f (λ k l. c.loop-i.invariant k (omega arith))
