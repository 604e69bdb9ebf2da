use Rattle.std.proofs.Common.{rules, arith}
use Rattle.noc_tiles.proofs.partition.RouterSpan.going.Goals as goal

pub overflow_mul-result : goal.overflow_mul-result
overflow_mul-result c = let few = c.args.self.now.grid.few_nodes in let r = c.in_ok-router.ensures in search (rules, arith)

pub overflow_add-result : goal.overflow_add-result
overflow_add-result c = let few = c.args.self.now.grid.few_nodes in let r = c.in_ok-router.ensures in search (rules, arith)
