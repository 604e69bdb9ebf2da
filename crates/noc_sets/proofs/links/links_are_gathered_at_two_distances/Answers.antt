use Rattle.noc_sets.proofs.GatherLemmas.{gathered-is}
use Rattle.noc_sets.proofs.links.links_are_gathered_at_two_distances.Goals as goal

pub returns : goal.returns
returns c = λ g vcs words r i sound some known. gathered-is g sound vcs some words r known i
