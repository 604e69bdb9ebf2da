use Rattle.std.proofs.Common.{◌≡◌, ℕ, ◌≤◌, [], get_or}
use Rattle.noc_view.specs.declared.verdict.Verdict.{Verdict}
use Rattle.noc_router.specs.Tally.{HaveVerdicts}
use Rattle.noc_router.proofs.TallyLemmas.{AreCountedTo}
use Rattle.noc_router.proofs.tally.count_all.Given as goal

-- the channels so far are counted, and the others are as they were
abbrev pub invariant-loop-index : goal.invariant-loop-index
invariant-loop-index l =
    ((k : ℕ) → l.index ≤ k → get_or l.counts k [] ≡ get_or l.initial.counts k [])
    × ((verdict : ℕ → Verdict) → HaveVerdicts verdict l.findings → AreCountedTo verdict l.initial.counts l.counts l.index)
