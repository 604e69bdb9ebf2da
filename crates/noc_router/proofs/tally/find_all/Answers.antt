use Rattle.std.proofs.Common.{length, arith}
use Rattle.noc_topo.proofs.ListLemmas.{tabulate-from_each}
use Rattle.noc_router.specs.Settled.{finding_by}
use Rattle.noc_view.specs.Found.{empty_finding}
use Rattle.noc_router.proofs.TableLemmas.{filled-more}
use Rattle.noc_router.proofs.tally.find_all.Goals as goal

pub loop-index-preserved : goal.loop-index-preserved
loop-index-preserved c =
    let l = c.loop-index in
    filled-more l.index empty_finding (finding_by c.args.plan.now c.args.vcs c.args.channels.now.inputs.items) l.findings c.find.new.finding (omega (arith, l.auto.findings)) c.find.ensures l.invariant

pub returns : goal.returns
returns c =
    let l = c.loop-index in
    tabulate-from_each (length c.args.findings.now) (finding_by c.args.plan.now c.args.vcs c.args.channels.now.inputs.items) l.findings empty_finding l.auto.findings
    (λ k h. l.invariant k (omega (arith, h, l.auto.index-end, c.loop-index-test.false)))
