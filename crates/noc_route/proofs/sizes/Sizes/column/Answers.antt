use Rattle.std.proofs.Common.{◌+◌, ◌*◌}
use Rattle.noc_topo.specs.Shape.{nodes}
use Rattle.noc_route.specs.Routes.{width}
use Rattle.noc_route.proofs.EntryLemmas.{flat-below}
use Rattle.noc_route.proofs.sizes.Sizes.column.Goals as goal

pub returns-clause-within : goal.returns-clause-within
returns-clause-within c =
    let f = c.args.self.now in
    let pair = flat-below c.args.router (nodes f.shape) c.args.class f.classes c.requires.router c.requires.class in
    rw c.width.ensures.value (flat-below (c.args.router * f.classes + c.args.class) (nodes f.shape * f.classes) c.args.input (width f.shape f.vcs) pair c.requires.input)
