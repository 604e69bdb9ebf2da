use Rattle.noc_theory_headline.proofs.EffectStepLemmas.{right-step}
use Rattle.noc_theory_headline.proofs.laws.verdicts_take_effect.Goals as goal

pub returns : goal.returns
returns c = λ net n made. right-step net made n
