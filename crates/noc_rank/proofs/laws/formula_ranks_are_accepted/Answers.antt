use Rattle.noc_rank.proofs.AcceptedLemmas.{formula-ranked, formula-exists}
use Rattle.noc_rank.proofs.laws.formula_ranks_are_accepted.Goals as goal

pub returns-clause-accepted : goal.returns-clause-accepted
returns-clause-accepted c = λ g routes ranks made given. formula-ranked g.grid g.vcs g.classes g.rule routes ranks made given.ruled given.grid given.vcs_are given.ranks

pub returns-clause-exist : goal.returns-clause-exist
returns-clause-exist c = λ g routes made ruled. formula-exists g.grid g.vcs g.classes g.rule routes made ruled
