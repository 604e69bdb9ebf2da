use Rattle.noc_answers.proofs.OneAnswerLemmas.{one_answer}
use Rattle.noc_answers.proofs.OneFaultLemmas.{text_or_fault, one_first_fault}
use Rattle.noc_answers.proofs.laws.a_request_has_one_answer.Goals as goal

pub returns-clause-text : goal.returns-clause-text
returns-clause-text c = λ r text other status end x y. one_answer r text other status end x y

pub returns-clause-either : goal.returns-clause-either
returns-clause-either c = λ r text status f x h. text_or_fault r text status f x h

pub returns-clause-fault : goal.returns-clause-fault
returns-clause-fault c = λ r f g p q x y. one_first_fault r f g p q x y
