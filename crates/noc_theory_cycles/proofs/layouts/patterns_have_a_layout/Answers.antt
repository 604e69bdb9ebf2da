use Rattle.noc_theory_cycles.proofs.LayoutLemmas.{fits-layout, fits-network}
use Rattle.noc_theory_cycles.proofs.layouts.patterns_have_a_layout.Goals as goal

pub returns-clause-network : goal.returns-clause-network
returns-clause-network c = λ net pattern setup is. fits-network net setup pattern is

pub returns-clause-block : goal.returns-clause-block
returns-clause-block c = fits-layout
