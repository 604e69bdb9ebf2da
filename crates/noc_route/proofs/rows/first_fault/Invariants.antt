use Rattle.noc_route.proofs.RowLemmas.{IsFirstAmong}
use Rattle.noc_route.proofs.rows.first_fault.Given as goal

abbrev pub invariant-loop-row : goal.invariant-loop-row
invariant-loop-row l = IsFirstAmong l.map.sizes.shape l.map.sizes.vcs l.map.sizes.classes l.rows l.row-index l.first
