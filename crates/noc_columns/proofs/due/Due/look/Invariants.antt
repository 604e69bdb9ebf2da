use Rattle.noc_columns.proofs.DueLemmas.{AreLooked}
use Rattle.noc_columns.proofs.due.Due.look.Given as goal

abbrev pub invariant-loop-r : goal.invariant-loop-r
invariant-loop-r l = AreLooked l.cycle l.r l.self.at l.ready l.next
