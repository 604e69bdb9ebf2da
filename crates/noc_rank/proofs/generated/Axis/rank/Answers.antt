use Rattle.std.proofs.Common.{◌<◌, ◌/◌, arith}
use Rattle.noc_rank.proofs.FormulaLemmas.{rank-few}
use Rattle.noc_rank.proofs.generated.Axis.rank.Goals as goal

pub returns-clause-few : goal.returns-clause-few
returns-clause-few c =
    let axis : c.args.port / 2 < 3 = omega (arith, c.requires.port) in
    omega (arith, (rank-few (c.args.port / 2) c.args.part c.args.self.size c.passed.result axis c.requires.part c.args.self.few c.passed.ensures.few).1)
