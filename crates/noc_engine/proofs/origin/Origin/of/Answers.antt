use Rattle.std.proofs.Common.{ap}
use Rattle.noc_engine.proofs.OpenedLemmas.{same-setup}
use Rattle.noc_engine.proofs.origin.Origin.of.Goals as goal

pub returns : goal.returns
returns c = same-setup _ _ _ _ _ _ c.of.ensures c.of-2.ensures (ap (λ v. v.items) c.of-3.ensures)
