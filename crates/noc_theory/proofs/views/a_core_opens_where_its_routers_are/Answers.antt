use Rattle.noc_theory.proofs.join.CoreOpeningLemmas.{opening-is}
use Rattle.noc_theory.proofs.views.a_core_opens_where_its_routers_are.Goals as goal

pub returns : goal.returns
returns c = λ u good few. opening-is u good few
