use Rattle.noc_theory_cycles.proofs.NodeLemmas.{node-may-conclude, node-may-decide, node-may-inject, node-may-take}
use Rattle.noc_theory_cycles.proofs.nodes.nodes_have_what_is_asked_for.Goals as goal

pub returns-clause-taking : goal.returns-clause-taking
returns-clause-taking c = node-may-take

pub returns-clause-injecting : goal.returns-clause-injecting
returns-clause-injecting c = node-may-inject

pub returns-clause-deciding : goal.returns-clause-deciding
returns-clause-deciding c = λ count net layout pattern n node links h a b standing no_credit comes setup few fits is taken.
    node-may-decide count net layout pattern n node links h b setup few fits is a standing no_credit comes taken

pub returns-clause-arriving : goal.returns-clause-arriving
returns-clause-arriving c = λ count net layout pattern n node links h a d k b sets x after arrived before verdicts setup few fits is has concludes.
    node-may-conclude count net layout pattern n node links h b setup few fits is a x.standing has.no_credit has.comes has.takes sets d k x.decided x.granted x.lost arrived x.left after before verdicts has.decides concludes
