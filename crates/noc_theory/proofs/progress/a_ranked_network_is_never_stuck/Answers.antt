use Rattle.noc_theory.proofs.budget.ProgressTheoremLemmas.{each-pending, not-stuck}
use Rattle.noc_theory.proofs.progress.a_ranked_network_is_never_stuck.Goals as goal

pub returns-clause-event : goal.returns-clause-event
returns-clause-event c = λ net ranks n made ranked. each-pending net made ranks ranked n

pub returns-clause-unstuck : goal.returns-clause-unstuck
returns-clause-unstuck c = λ net ranks n made ranked. not-stuck net made ranks ranked n
