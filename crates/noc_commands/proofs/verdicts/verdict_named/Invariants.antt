use Rattle.std.proofs.Common.{◌≡◌, ◌<◌}
use Rattle.noc_view.specs.Names.{verdict_name}
use Rattle.noc_view.specs.Verdict.{column}
use Rattle.noc_view.specs.declared.verdict.Verdict.{Verdict}
use Rattle.noc_commands.proofs.verdicts.verdict_named.Given as goal

-- none of the verdicts so far has the name
abbrev pub invariant-loop-verdict : goal.invariant-loop-verdict
invariant-loop-verdict l = (v : Verdict) → column v < l.verdict-index → l.name ≡ verdict_name v → ⊥
