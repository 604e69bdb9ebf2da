use Rattle.noc_theory_cycles.proofs.HeadLemmas.{routable}
use Rattle.noc_theory_cycles.proofs.heads.packets_are_routable.Goals as goal

pub returns : goal.returns
returns c = routable
