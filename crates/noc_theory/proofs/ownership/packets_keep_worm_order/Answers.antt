use Rattle.noc_theory.proofs.worms.WormOrderLemmas.{worm_order-at, worm_order-frozen_at}
use Rattle.noc_theory.proofs.ownership.packets_keep_worm_order.Goals as goal

pub returns-clause-start : goal.returns-clause-start
returns-clause-start c = λ net n made. worm_order-at net made n

pub returns-clause-frozen : goal.returns-clause-frozen
returns-clause-frozen c = λ net n made. worm_order-frozen_at net made n
