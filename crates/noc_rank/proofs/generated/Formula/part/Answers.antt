use Rattle.noc_rank.proofs.FormulaLemmas.{escape-low}
use Rattle.noc_rank.proofs.generated.Formula.part.Goals as goal

pub returns-in-Adaptive-clause-few : goal.returns-in-Adaptive-clause-few
returns-in-Adaptive-clause-few c = let f = c.args.self.now in escape-low f.shape.now f.vcs f.classes c.args.vc f.rule.now c.in-Adaptive.is c.requires
