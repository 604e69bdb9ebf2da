use Rattle.std.proofs.Common.{add-one, ap, sym, ◌∙◌}
use Rattle.noc_theory.proofs.Common.{is_stuck}
use Rattle.noc_theory.proofs.budget.UnchangedLemmas.{stuck-until}
use Rattle.noc_theory.proofs.progress.a_stuck_network_stays_stuck.Goals as goal

pub returns : goal.returns
returns c = λ net n m made stuck later none. ap (is_stuck net) (add-one m) ∙ stuck-until net made n m (ap (is_stuck net) (sym (add-one n)) ∙ stuck) later none
