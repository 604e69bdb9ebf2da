use Rattle.noc_route.specs.Trimming.{routes_in}
use Rattle.noc_route.proofs.EnterLemmas.{HasRows}
use Rattle.noc_route.proofs.enter.enter_rows.Given as goal

abbrev pub invariant-loop-row : goal.invariant-loop-row
invariant-loop-row l = HasRows (routes_in l.map.sizes l.sets) l.sets l.rows l.row-index
