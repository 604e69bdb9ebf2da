use Rattle.std.proofs.Common.{◌+◌, ◌*◌, ◌<◌, ap, arith}
use Rattle.noc_topo.specs.Shape.{nodes}
use Rattle.noc_route.proofs.EntryLemmas.{flat-below, page-few}
use Rattle.noc_route.proofs.sizes.Sizes.page.Goals as goal

few : (c : goal.Start) → (c.args.router * c.args.self.now.classes + c.args.class < 1024) × ((c.args.router * c.args.self.now.classes + c.args.class) * c.args.self.now.node_count + c.args.dst < 262144)
few c =
    let f = c.args.self.now in
    page-few f.node_count f.classes c.args.router c.args.class c.args.dst f.few_nodes f.few_classes (rw f.all_nodes c.requires.router) c.requires.class (rw f.all_nodes c.requires.dst)

pub overflow_mul-result : goal.overflow_mul-result
overflow_mul-result c = omega (arith, (few c).0)

pub overflow_add-result : goal.overflow_add-result
overflow_add-result c = omega (arith, (few c).0)

pub overflow_mul-result-2 : goal.overflow_mul-result-2
overflow_mul-result-2 c = omega (arith, (few c).1)

pub overflow_add-result-2 : goal.overflow_add-result-2
overflow_add-result-2 c = omega (arith, (few c).1)

pub returns-clause-value : goal.returns-clause-value
returns-clause-value c = ap (λ n. (c.args.router * c.args.self.now.classes + c.args.class) * n + c.args.dst) c.args.self.now.all_nodes

pub returns-clause-within : goal.returns-clause-within
returns-clause-within c =
    let g = c.args.self.now.shape in
    let k = c.args.self.now.classes in
    let pair = flat-below c.args.router (nodes g) c.args.class k c.requires.router c.requires.class in
    rw c.args.self.now.all_nodes (flat-below (c.args.router * k + c.args.class) (nodes g * k) c.args.dst (nodes g) pair c.requires.dst)
