use Rattle.noc_theory_cycles.proofs.RouterLemmas.{may-conclude, may-decide, may-inject, may-take}
use Rattle.noc_theory_cycles.proofs.routers.routers_have_what_is_asked_for.Goals as goal

pub returns-clause-taking : goal.returns-clause-taking
returns-clause-taking c = may-take

pub returns-clause-injecting : goal.returns-clause-injecting
returns-clause-injecting c = λ count net layout pattern starts n r links h b setup few fits l shows held.
    may-inject count net layout pattern starts n r links h b setup fits l shows held few

pub returns-clause-deciding : goal.returns-clause-deciding
returns-clause-deciding c = may-decide

pub returns-clause-concluding : goal.returns-clause-concluding
returns-clause-concluding c = λ count net layout pattern starts n r b a h sets x released setup few fits l shows has among.
    may-conclude count net layout pattern starts n r b a x.standing has.no_credit has.comes setup few fits l shows has.takes sets h x.decided x.granted x.lost released x.left has.decides among
