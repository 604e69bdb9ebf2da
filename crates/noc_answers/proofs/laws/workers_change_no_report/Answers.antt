use Rattle.noc_answers.proofs.WorkersLemmas.{fewer, same-report}
use Rattle.noc_answers.proofs.laws.workers_change_no_report.Goals as goal

pub returns-clause-same : goal.returns-clause-same
returns-clause-same c = λ r report drain workers other text said status end x y. same-report r report drain workers other text said status end x y

pub returns-clause-fewer : goal.returns-clause-fewer
returns-clause-fewer c = λ r report drain many few text status l x. fewer r report drain many few l text status x
