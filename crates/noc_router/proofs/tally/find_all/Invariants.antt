use Rattle.noc_router.specs.Settled.{finding_by}
use Rattle.noc_view.specs.Found.{empty_finding}
use Rattle.noc_router.proofs.TableLemmas.{IsFilledTo}
use Rattle.noc_router.proofs.tally.find_all.Given as goal

-- the findings so far are those of the plan
abbrev pub invariant-loop-index : goal.invariant-loop-index
invariant-loop-index l = IsFilledTo l.index empty_finding (finding_by l.plan l.vcs l.channels.inputs.items) l.findings
