use Rattle.noc_theory_cycles.proofs.BlankMayLemmas.{holds-blank, opened-blank, words-blank}
use Rattle.noc_theory_cycles.proofs.blank.blank_routers_hold_nothing.Goals as goal

pub returns-clause-blank : goal.returns-clause-blank
returns-clause-blank c = words-blank

pub returns-clause-nothing : goal.returns-clause-nothing
returns-clause-nothing c = holds-blank

pub returns-clause-opened : goal.returns-clause-opened
returns-clause-opened c = opened-blank
