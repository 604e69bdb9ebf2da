use Rattle.noc_columns.proofs.ChosenLemmas.{is-chosen}
use Rattle.noc_columns.proofs.laws.allotments_and_routes_are_what_a_router_chooses.Goals as goal

pub returns : goal.returns
returns c = λ size vcs heads all sets set a b column m some few waits clear unlost fits asked unasked routed. is-chosen size vcs heads all sets set a b column m some few waits clear unlost fits asked unasked routed
