use Rattle.noc_sets.proofs.DistanceLemmas.{neighbour-by}
use Rattle.noc_sets.proofs.links.neighbours_are_at_two_distances.Goals as goal

pub returns : goal.returns
returns c = λ g r port sound known. neighbour-by g sound r port known
