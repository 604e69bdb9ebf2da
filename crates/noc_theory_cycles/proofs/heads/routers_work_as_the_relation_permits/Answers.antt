use Rattle.noc_theory_cycles.proofs.HeadLemmas.{works-as-permitted}
use Rattle.noc_theory_cycles.proofs.heads.routers_work_as_the_relation_permits.Goals as goal

pub returns : goal.returns
returns c = works-as-permitted
