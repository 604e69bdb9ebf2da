use Rattle.std.proofs.Common.{arith}
use Rattle.std.proofs.Math.Nat.{mod-lt}
use Rattle.noc_topo.specs.Shape.{nodes}
use Rattle.noc_route.proofs.EntryLemmas.{page-router}
use Rattle.noc_route.proofs.sizes.Sizes.page_parts.Goals as goal

pub returns-clause-range : goal.returns-clause-range
returns-clause-range c =
    rw c.args.self.now.all_nodes
    (mod-lt _ (omega arith), page-router c.args.page (nodes c.args.self.now.shape) c.args.self.now.classes (omega arith) (omega arith) c.requires, mod-lt _ (omega arith))
