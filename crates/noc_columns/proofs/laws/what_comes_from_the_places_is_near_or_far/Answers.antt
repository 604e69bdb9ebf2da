use Rattle.noc_columns.proofs.PlaceLemmas.{near-or-far}
use Rattle.noc_columns.proofs.laws.what_comes_from_the_places_is_near_or_far.Goals as goal

pub returns : goal.returns
returns c = λ g vcs b k r near far sent inside few own. near-or-far g vcs b k r near far sent inside few own
