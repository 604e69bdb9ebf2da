use Rattle.noc_columns.proofs.BackLemmas.{given-back}
use Rattle.noc_columns.proofs.laws.what_leaves_gives_its_channel_back.Goals as goal

pub returns : goal.returns
returns c = λ links vcs picked single tail m w e old new idle local port vc few below shows has local_is.
    given-back links vcs picked single tail m w e old new port vc local few below shows has local_is idle
