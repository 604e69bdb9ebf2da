use Rattle.std.proofs.Common.{arith}
use Rattle.noc_answers.proofs.DrainLemmas.{unchanged-for}
use Rattle.noc_answers.proofs.drain.unchanged_cycles.Goals as goal

pub returns-clause-same : goal.returns-clause-same
returns-clause-same c =
    let now = c.args.network.now in
    let last = c.is_quiet.ensures c.if-not-is_quiet.false in
    let packets = c.packets-number-end.ensures in
    unchanged-for now.net packets.good last.0 now.count c.loop-number.quiet last.1 last.2
    (λ p l due.
    let far = c.loop-number.invariant.none p (omega (arith, l, packets.value, c.loop-number-test.false)) (omega (arith, due, c.count-count.ensures.value)) in
    omega (arith, far, c.count-count.ensures.value))
