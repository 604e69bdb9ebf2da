use Rattle.noc_columns.proofs.NearLemmas.{brought-is}
use Rattle.noc_columns.proofs.laws.places_bring_what_comes_over_the_link.Goals as goal

pub returns : goal.returns
returns c = λ g s p v vcs places sent words are stands. brought-is g s p v vcs places sent words are stands
