use Rattle.noc_columns.proofs.RouterLemmas.{are-picked}
use Rattle.noc_columns.proofs.laws.ports_pick_what_a_router_picks.Goals as goal

pub returns : goal.returns
returns c = λ ports r ready ahead picked some few each. are-picked ports r ready ahead picked some few each
