use Rattle.noc_theory_cycles.proofs.TellLemmas.{node-tells}
use Rattle.noc_theory_cycles.proofs.steps.nodes_tell_what_they_grant.Goals as goal

pub returns : goal.returns
returns c = λ count net layout pattern n node links h a d b sets x t has setup few fits is grants.
    node-tells count net layout pattern n node links h b setup few fits is a x.standing has.no_credit has.comes has.takes sets d x.decided x.granted x.lost x.left has.decides t grants
