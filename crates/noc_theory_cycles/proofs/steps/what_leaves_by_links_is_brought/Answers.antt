use Rattle.noc_theory_cycles.proofs.StepLemmas.{brought-same}
use Rattle.noc_theory_cycles.proofs.steps.what_leaves_by_links_is_brought.Goals as goal

pub returns : goal.returns
returns c = brought-same
