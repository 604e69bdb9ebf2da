use Rattle.noc_theory.proofs.join.LockstepTheoremLemmas.{lockstep-is_state}
use Rattle.noc_theory.proofs.views.routers_in_lockstep_show_the_network.Goals as goal

pub returns : goal.returns
returns c = λ net n good l. lockstep-is_state net good n l
