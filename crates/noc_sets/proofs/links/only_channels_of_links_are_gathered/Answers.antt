use Rattle.noc_sets.proofs.GatherLemmas.{gathered-same}
use Rattle.noc_sets.proofs.links.only_channels_of_links_are_gathered.Goals as goal

pub returns : goal.returns
returns c = λ g vcs words others r sound some same known. gathered-same g sound vcs some words others same r known
