use Rattle.noc_theory_cycles.proofs.HeadLemmas.{sets-permitted}
use Rattle.noc_theory_cycles.proofs.heads.heads_are_routed_as_permitted.Goals as goal

pub returns : goal.returns
returns c = sets-permitted
