use Rattle.noc_theory.proofs.runs.FindingLemmas.{findings-local_step}
use Rattle.noc_theory.proofs.laws.findings_change_nothing.Goals as goal

pub returns : goal.returns
returns c = λ relation view findings beats n. findings-local_step findings relation view beats n
