use Rattle.noc_theory.proofs.worms.BuiltLemmas.{well-formed}
use Rattle.noc_theory.proofs.laws.a_good_setup_is_well_formed.Goals as goal

pub returns : goal.returns
returns c = λ net good. well-formed net good
