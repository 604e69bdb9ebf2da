use Rattle.noc_route.proofs.EntryLemmas.{flat-below}
use Rattle.noc_route.proofs.sizes.Sizes.index.Goals as goal

pub returns-clause-within : goal.returns-clause-within
returns-clause-within c = flat-below c.args.port _ c.args.vc _ c.requires.port c.requires.vc
