use Rattle.noc_theory.proofs.budget.OpeningProgressLemmas.{opening-budget}
use Rattle.noc_theory.proofs.budget.ProgressTheoremLemmas.{each-cycle}
use Rattle.noc_theory.proofs.progress.each_event_is_one_less_to_come.Goals as goal

pub returns-clause-cycle : goal.returns-clause-cycle
returns-clause-cycle c = λ net n made. each-cycle net made n

pub returns-clause-start : goal.returns-clause-start
returns-clause-start c = λ net. opening-budget net
