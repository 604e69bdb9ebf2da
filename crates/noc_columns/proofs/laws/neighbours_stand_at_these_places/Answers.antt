use Rattle.noc_columns.proofs.NearLemmas.{are-places}
use Rattle.noc_columns.proofs.laws.neighbours_stand_at_these_places.Goals as goal

pub returns : goal.returns
returns c = λ g b p s far places sound link are block known. are-places g b p s far places sound link are block known
