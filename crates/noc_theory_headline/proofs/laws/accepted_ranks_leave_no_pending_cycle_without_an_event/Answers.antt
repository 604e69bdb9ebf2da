use Rattle.noc_theory_headline.proofs.PendingLemmas.{ranked-happens}
use Rattle.noc_theory_headline.proofs.laws.accepted_ranks_leave_no_pending_cycle_without_an_event.Goals as goal

pub returns : goal.returns
returns c = λ net ranks n made ranked waits. ranked-happens net ranks n made ranked waits
