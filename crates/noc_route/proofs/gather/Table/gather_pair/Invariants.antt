use Rattle.noc_route.specs.Entered.{sets_in}
use Rattle.noc_route.specs.Trimming.{routes_in}
use Rattle.noc_route.specs.Gathering.{IsPairDone}
use Rattle.noc_route.proofs.gather.Table.gather_pair.Given as goal

abbrev pub invariant-loop-class : goal.invariant-loop-class
invariant-loop-class l = IsPairDone (routes_in l.self.map.now.sizes (sets_in l.self.map.now.sizes l.self.entered.now)) l.fn.outs l.outs l.router l.dst l.class
