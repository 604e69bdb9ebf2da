use Rattle.noc_columns.proofs.PastLemmas.{are-past}
use Rattle.noc_columns.proofs.laws.ports_pass_what_a_router_passes.Goals as goal

pub returns : goal.returns
returns c = λ ports r ready ahead picked past sends sending some few each. are-past ports r ready ahead picked past sends sending some few each
