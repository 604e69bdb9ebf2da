use Rattle.std.proofs.Common.{◌≡◌, ◌+◌, ◌*◌, ◌∙◌, arith, inr, replicate, subst}
use Rattle.noc_counts.specs.Low.{HasRaised, set_sum}
use Rattle.noc_counts.proofs.LowLemmas.{raised-none, raised-on}
use Rattle.noc_counts.proofs.RepeatLemmas.{zero-word}
use Rattle.noc_counts.proofs.low.Low+Row.add.Goals as goal

pub loop-verdict-init : goal.loop-verdict-init
loop-verdict-init c = raised-none _ _ _ _

pub add_if-requires-clause-none : goal.add_if-requires-clause-none
add_if-requires-clause-none c = λ j u. c.loop-verdict.invariant.kept j (inr u) ∙ zero-word j

pub loop-verdict-preserved : goal.loop-verdict-preserved
loop-verdict-preserved c =
    let verdict = c.loop-verdict.verdict in
    let next : 4 * verdict + 4 ≡ 4 * (verdict + 1) = omega arith in
    subst (λ n. HasRaised (set_sum c.args.sets.now 16) 0 n c.args.self.now c.add_if.new.self (replicate 32 0) c.add_if.new.carry) next
    (raised-on _ _ _ _ _ _ _ _ _ _ (omega arith) (omega arith) c.loop-verdict.invariant c.add_if.ensures)

pub returns : goal.returns
returns c = λ j r few. c.loop-verdict.invariant.done j r (omega arith) (omega arith)
