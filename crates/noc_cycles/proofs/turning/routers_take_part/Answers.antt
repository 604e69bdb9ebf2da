use Rattle.noc_cycles.proofs.TurningLemmas.{worked-through}
use Rattle.noc_cycles.proofs.turning.routers_take_part.Goals as goal

pub returns : goal.returns
returns c = λ pattern layout starts sets cycle b n x happens goes fits. worked-through pattern layout starts sets cycle b n x happens goes fits
