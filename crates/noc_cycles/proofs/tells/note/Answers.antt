use Rattle.noc_cycles.proofs.NoteLemmas.{pushed-here, pushed-other}
use Rattle.noc_cycles.proofs.tells.note.Goals as goal

pub returns-clause-here : goal.returns-clause-here
returns-clause-here c = pushed-here _ _ _ c.push_reserved.ensures.items

pub returns-clause-others : goal.returns-clause-others
returns-clause-others c = pushed-other _ _ _ c.push_reserved.ensures.items
