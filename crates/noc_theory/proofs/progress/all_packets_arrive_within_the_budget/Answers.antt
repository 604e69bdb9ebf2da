use Rattle.noc_theory.proofs.budget.ProgressTheoremLemmas.{each-arrives, each-idle}
use Rattle.noc_theory.proofs.progress.all_packets_arrive_within_the_budget.Goals as goal

pub returns-clause-arrived : goal.returns-clause-arrived
returns-clause-arrived c = λ net ranks last n p made ranked due late low. each-arrives net made ranks ranked last due n late p low

pub returns-clause-idle : goal.returns-clause-idle
returns-clause-idle c = λ net ranks last n made ranked due late. each-idle net made ranks ranked last due n late
