use Rattle.noc_route.proofs.OneFaultLemmas.{only-memory}
use Rattle.noc_route.proofs.laws.a_rule_has_a_relation_or_a_fault.Goals as goal

pub returns : goal.returns
returns c = λ g routes fault good h. only-memory g routes fault good h
