use Rattle.noc_route.proofs.EntryLemmas.{flat-below}
use Rattle.noc_route.proofs.sizes.Sizes.slot.Goals as goal

pub returns-clause-within : goal.returns-clause-within
returns-clause-within c = rw c.width.ensures.value (flat-below c.args.page _ c.args.input _ c.requires.page c.requires.input)
