use Rattle.noc_theory_headline.proofs.StepLemmas.{right-core}
use Rattle.noc_theory_headline.proofs.laws.after_any_list_of_steps.Goals as goal

pub returns : goal.returns
returns c = λ u events made few. right-core u made few events
