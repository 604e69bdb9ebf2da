use Rattle.noc_theory_cycles.proofs.BlankMayLemmas.{blank-may-conclude, blank-may-decide, blank-may-inject, blank-may-take}
use Rattle.noc_theory_cycles.proofs.blank.blank_routers_have_what_is_asked_for.Goals as goal

pub returns-clause-taking : goal.returns-clause-taking
returns-clause-taking c = λ pattern starts h links b held blank. blank-may-take pattern h links b held blank starts

pub returns-clause-injecting : goal.returns-clause-injecting
returns-clause-injecting c = λ pattern starts n h links b soon held blank. blank-may-inject pattern h links b held blank starts n soon

pub returns-clause-deciding : goal.returns-clause-deciding
returns-clause-deciding c = λ pattern layout starts n b h standing no_credit comes packets nodes node soon blank taken.
    blank-may-decide pattern layout starts n b h standing no_credit comes soon blank taken packets nodes node

pub returns-clause-concluding : goal.returns-clause-concluding
returns-clause-concluding c = λ pattern layout starts n b a h sets x released packets soon blank has among.
    blank-may-conclude pattern layout starts n b a x.standing has.no_credit has.comes soon blank has.takes sets h x.decided x.granted x.lost released packets x.left has.decides among
