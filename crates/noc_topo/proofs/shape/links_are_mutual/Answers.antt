use Rattle.noc_topo.proofs.LinkLemmas.{link_back}
use Rattle.noc_topo.proofs.shape.links_are_mutual.Goals as goal

pub returns : goal.returns
returns c = λ g a p b q sound node port e. link_back g a p b q sound node e
