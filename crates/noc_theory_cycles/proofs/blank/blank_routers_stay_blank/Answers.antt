use Rattle.noc_theory_cycles.proofs.BlankLemmas.{does-nothing, stays-blank}
use Rattle.noc_theory_cycles.proofs.blank.blank_routers_stay_blank.Goals as goal

pub returns-clause-blank : goal.returns-clause-blank
returns-clause-blank c = λ count net layout starts sets n size b t next laid soon blank works.
    stays-blank count net layout laid starts sets n b t soon size blank works next

pub returns-clause-nothing : goal.returns-clause-nothing
returns-clause-nothing c = λ count net layout starts sets n size b t laid soon blank works. does-nothing count net layout laid starts sets n b t soon size blank works
