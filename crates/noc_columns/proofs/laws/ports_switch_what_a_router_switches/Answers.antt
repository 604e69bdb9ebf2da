use Rattle.noc_columns.proofs.SwitchLemmas.{has-switched}
use Rattle.noc_columns.proofs.laws.ports_switch_what_a_router_switches.Goals as goal

pub returns : goal.returns
returns c = λ ports vcs picked single old tail m e picks ahead after sends flits tails some few shows turns passed.
    has-switched ports vcs some few picked tail m picks shows ahead turns after sends flits tails passed single old e
