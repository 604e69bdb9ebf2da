use Rattle.std.proofs.Common.{◌≡◌, replicate, rules, arith}
use Rattle.noc_router.proofs.TallyLemmas.{opened-tally}
use Rattle.noc_router.proofs.tally.VerdictTally.new.Goals as goal

pub invariant_of-result : goal.invariant_of-result
invariant_of-result c =
    let none : c.in_ok-counts.counts.items ≡ replicate c.args.size (replicate 10 0) = c.in_ok-counts.ensures.items_if_clones_equal (λ y e. search rules) in
    opened-tally c.args.size c.in_ok-counts.counts.items c.in_ok-findings.findings.items none
    (omega (arith, c.in_ok-counts.ensures.len, c.in_ok-findings.ensures.len, c.in_ok-counts.counts.ok.0, c.in_ok-findings.findings.ok.0))
