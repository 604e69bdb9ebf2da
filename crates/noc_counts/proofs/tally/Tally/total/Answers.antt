use Rattle.std.proofs.Common.{◌≡◌, ◌+◌, subst, arith}
use Rattle.noc_counts.specs.Tallies.{at_level, number_by}
use Rattle.noc_counts.proofs.TallyLemmas.{level-small, number-fits, number-none, number-up}
use Rattle.noc_counts.proofs.tally.Tally.total.Goals as goal

pub loop-level-init : goal.loop-level-init
loop-level-init c = number-none _

pub overflow_add-upper : goal.overflow_add-upper
overflow_add-upper c =
    let self = c.args.self.now in
    let n = number-up (at_level self.bits self.pending c.args.times c.args.index c.args.router) c.loop-level.upper c.level.result c.loop-level.level
    c.loop-level.invariant c.level.ensures.count
    (level-small self.bits self.pending c.args.times c.args.index c.args.router c.loop-level.level) (omega arith) in
    let m = number-fits (at_level self.bits self.pending c.args.times c.args.index c.args.router) (c.loop-level.level + 1)
    (level-small self.bits self.pending c.args.times c.args.index c.args.router) (omega arith) in
    omega (arith, n, m)

pub loop-level-preserved : goal.loop-level-preserved
loop-level-preserved c =
    let self = c.args.self.now in
    number-up (at_level self.bits self.pending c.args.times c.args.index c.args.router) c.loop-level.upper c.level.result c.loop-level.level
    c.loop-level.invariant c.level.ensures.count
    (level-small self.bits self.pending c.args.times c.args.index c.args.router c.loop-level.level) (omega arith)

pub overflow_mul-result-2 : goal.overflow_mul-result-2
overflow_mul-result-2 c =
    let self = c.args.self.now in
    let m = number-fits (at_level self.bits self.pending c.args.times c.args.index c.args.router) c.loop-level.level
    (level-small self.bits self.pending c.args.times c.args.index c.args.router) (omega arith) in
    omega (arith, m)

pub overflow_add-result-2 : goal.overflow_add-result-2
overflow_add-result-2 c =
    let self = c.args.self.now in
    let m = number-fits (at_level self.bits self.pending c.args.times c.args.index c.args.router) c.loop-level.level
    (level-small self.bits self.pending c.args.times c.args.index c.args.router) (omega arith) in
    omega (arith, m)

pub returns-clause-small : goal.returns-clause-small
returns-clause-small c =
    let self = c.args.self.now in
    let m = number-fits (at_level self.bits self.pending c.args.times c.args.index c.args.router) c.loop-level.level
    (level-small self.bits self.pending c.args.times c.args.index c.args.router) (omega arith) in
    omega (arith, m)

pub returns-clause-count : goal.returns-clause-count
returns-clause-count c =
    let self = c.args.self.now in
    let last : c.loop-level.level ≡ 30 = omega arith in
    let upper : c.loop-level.upper ≡ number_by (at_level self.bits self.pending c.args.times c.args.index c.args.router) 30 =
    subst (λ n. c.loop-level.upper ≡ number_by (at_level self.bits self.pending c.args.times c.args.index c.args.router) n) last c.loop-level.invariant in
    omega (arith, upper, c.bit-low.ensures.count, c.bit.ensures.count)
