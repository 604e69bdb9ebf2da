use Rattle.std.proofs.Common.{◌+◌, ◌-◌}
use Rattle.noc_route.specs.Entered.{sets_in}
use Rattle.noc_route.specs.Trimming.{routes_in}
use Rattle.noc_route.specs.Gathering.{AreOutsFrom}
use Rattle.noc_route.proofs.gather.gather.Given as goal

abbrev pub invariant-loop-step : goal.invariant-loop-step
invariant-loop-step l = AreOutsFrom (routes_in l.map.sizes (sets_in l.map.sizes l.entered)) (l.farthest + 1 - l.step) l.outs
