use Rattle.std.proofs.Common.{add-one, ap, ◌∙◌}
use Rattle.noc_theory.proofs.Common.{state_at}
use Rattle.noc_theory.proofs.budget.UnchangedLemmas.{quiet-until, state-until}
use Rattle.noc_theory.proofs.progress.nothing_changes_until_a_packet_is_due.Goals as goal

pub returns-clause-event : goal.returns-clause-event
returns-clause-event c = λ net n m made quiet later none. quiet-until net made n quiet m later none

pub returns-clause-state : goal.returns-clause-state
returns-clause-state c = λ net n m made quiet later none. ap (state_at net) (add-one m) ∙ state-until net made n quiet m later none
