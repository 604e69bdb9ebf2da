use Rattle.noc_route.proofs.PinnedLemmas.{one-relation}
use Rattle.noc_route.proofs.laws.a_rule_has_one_relation.Goals as goal

pub returns : goal.returns
returns c = λ g a b one other. one-relation g a b one other
