-- The number and the name of a fault of a relation (docs/FORMATS.md, "Fault lines").
use Rattle.std.specs.Prelude.{ℕ, List, codes}
use Rattle.noc_route.specs.declared.rule.RouteFault.{RouteFault}
use Rattle.noc_route.specs.declared.rule.RouteFault.TheVariants as route

abbrev pub route_title : RouteFault → List ℕ
route_title route.WrongShape = codes "1 WrongShape"
route_title (route.NoLink row) = codes "2 NoLink"
route_title (route.NotMinimal row) = codes "3 NotMinimal"
route_title (route.EarlyEject row) = codes "4 EarlyEject"
route_title (route.LateHop row) = codes "5 LateHop"
route_title (route.NoWay entry) = codes "6 NoWay"
route_title route.Memory = codes "7 Memory"
