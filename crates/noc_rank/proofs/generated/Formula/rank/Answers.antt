use Rattle.std.proofs.Common.{refl}
use Rattle.noc_rank.proofs.FormulaLemmas.{formula-parted}
use Rattle.noc_rank.proofs.generated.Formula.rank.Goals as goal

pub returns-in_default-clause-value : goal.returns-in_default-clause-value
returns-in_default-clause-value c =
    let f = c.args.self.now in
    rw (formula-parted f.shape.now f.vcs f.classes c.args.router c.args.port c.args.vc f.rule.now c.in_default.not-WestFirst, c.rank.ensures.value, c.axis_of.ensures.size, c.axis_of.ensures.at, c.part.ensures.value) refl
