use Rattle.noc_columns.proofs.PlaceLemmas.{near-and-far}
use Rattle.noc_columns.proofs.laws.near_and_far_are_the_places.Goals as goal

pub returns : goal.returns
returns c = λ g vcs b v p near far others few link own. near-and-far g vcs b v p near far others few link own
