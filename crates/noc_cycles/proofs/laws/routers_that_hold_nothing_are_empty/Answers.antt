use Rattle.std.proofs.Common.{ℕ, ap}
use Rattle.noc_cycles.proofs.Common.{Inputs}
use Rattle.noc_cycles.proofs.EmptyLemmas.{holds-column, holds-marks, holds-shown}
use Rattle.noc_cycles.proofs.laws.routers_that_hold_nothing_are_empty.Goals as goal

pub returns-clause-shown : goal.returns-clause-shown
returns-clause-shown c = λ pattern one r h is. holds-shown pattern one r h is

pub returns-clause-column : goal.returns-clause-column
returns-clause-column c = λ pattern layout one places r h few fits room is. holds-column pattern one r h is layout places few fits room

pub returns-clause-marks : goal.returns-clause-marks
returns-clause-marks c = λ pattern one r h is. holds-marks pattern one r h is

pub returns-clause-ended : goal.returns-clause-ended
returns-clause-ended c = λ pattern one r h is. ap (λ (i : Inputs ℕ). i.ended) is.inputs

pub returns-clause-source : goal.returns-clause-source
returns-clause-source c = λ pattern one r h is. is.source
