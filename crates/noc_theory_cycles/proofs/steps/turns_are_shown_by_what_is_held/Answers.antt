use Rattle.noc_theory_cycles.proofs.StepLemmas.{turn-after, turn-shown}
use Rattle.noc_theory_cycles.proofs.steps.turns_are_shown_by_what_is_held.Goals as goal

pub returns-clause-shown : goal.returns-clause-shown
returns-clause-shown c = turn-shown

pub returns-clause-turned : goal.returns-clause-turned
returns-clause-turned c = turn-after
