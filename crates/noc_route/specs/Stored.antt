-- How a relation is stored.
use Rattle.noc_route.specs.declared.relation.Relation.TheInside.{Inside}
use Rattle.noc_route.specs.Columns.{table_of}
use Rattle.noc_route.specs.Routes.{Routes}
use Rattle.noc_route.specs.Trimming.{routes_in}

abbrev pub routes_of : Inside → Routes
routes_of r =
    routes_in r.columns.sizes (table_of r.columns.sizes r.columns.sets r.columns.starts.items)
