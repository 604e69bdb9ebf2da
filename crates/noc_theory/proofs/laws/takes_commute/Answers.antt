use Rattle.std.proofs.Common.{sym}
use Rattle.noc_theory.proofs.runs.TakeOrderLemmas.{taken-swapped}
use Rattle.noc_theory.proofs.laws.takes_commute.Goals as goal

pub returns : goal.returns
returns c = λ relation p q one other view apart. sym (taken-swapped relation p q one other view apart)
