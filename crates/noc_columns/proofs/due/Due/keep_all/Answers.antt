use Rattle.std.proofs.Common.{arith, refl}
use Rattle.noc_columns.proofs.DueLemmas.{kept-none}
use Rattle.noc_columns.proofs.due.Due.keep_all.Goals as goal

pub loop-r-init : goal.loop-r-init
loop-r-init c = (refl, c.saturating_add-self.ensures, omega (arith, c.saturating_add-self.ensures), kept-none c.args.cycle c.saturating_add-self.result c.args.self.now.at)
