use Rattle.noc_route.specs.Entered.{sets_in}
use Rattle.noc_route.specs.Trimming.{routes_in}
use Rattle.noc_route.proofs.TrimLemmas.{IsRingDone}
use Rattle.noc_route.proofs.gather.Table.gather_at.Given as goal

abbrev pub invariant-loop-pair : goal.invariant-loop-pair
invariant-loop-pair l = IsRingDone (routes_in l.self.map.now.sizes (sets_in l.self.map.now.sizes l.self.entered.now)) l.outs l.distance l.pair
