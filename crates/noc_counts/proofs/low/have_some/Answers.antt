use Rattle.std.proofs.Common.{◌≡◌, ◌+◌, ◌-◌, ◌<◌, ◌∙◌, arith, sym}
use Rattle.noc_columns.proofs.AskLemmas.{asked-none}
use Rattle.noc_counts.specs.Low.{set_sum}
use Rattle.noc_counts.proofs.CountLemmas.{set-none}
use Rattle.noc_counts.proofs.LowLemmas.{four-none, joined-next}
use Rattle.noc_counts.proofs.low.have_some.Goals as goal

pub loop-slot-init : goal.loop-slot-init
loop-slot-init c = λ k l e r. set-none c.args.sets.now (c.args.first + k) r

pub loop-slot-preserved : goal.loop-slot-preserved
loop-slot-preserved c = λ k l. joined-next c.args.sets.now c.args.first c.loop-slot.slot k c.loop-slot.some c.join_row.new.some (c.join_row.ensures k l) (c.loop-slot.invariant k l)

pub returns : goal.returns
returns c = λ e j r a l.
    let k = j - c.args.first in
    let is : c.args.first + k ≡ j = omega (arith, a) in
    let few : k < 4 = omega (arith, a, l) in
    let slots : c.loop-slot.slot ≡ 16 = omega arith in
    (λ x. set_sum c.args.sets.now (sym slots x) (sym is x) r) ∙ c.loop-slot.invariant k few (four-none c.loop-slot.some k (asked-none _ e) few) r
