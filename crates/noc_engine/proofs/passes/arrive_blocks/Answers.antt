use Rattle.std.proofs.Common.{◌<◌, length, arith}
use Rattle.noc_engine.proofs.PassLemmas.{arrived-at, arrived-next, may-arrive, none-leaves, packets-at}
use Rattle.noc_engine.proofs.passes.arrive_blocks.Goals as goal

pub arrive_in-requires-clause-leaving : goal.arrive_in-requires-clause-leaving
arrive_in-requires-clause-leaving c =
    none-leaves c.args.cycle.now.plan.now.pattern.table.ports c.args.works.now c.loop-number.number _ (omega (arith, c.requires.works)) c.requires.leaving

pub arrive_in-requires-clause-packets : goal.arrive_in-requires-clause-packets
arrive_in-requires-clause-packets c =
    let inside : c.loop-number.number < length c.args.blocks.now = omega arith in
    may-arrive c.args.cycle.now.plan.now.pattern.table.ports c.args.blocks.now c.args.works.now c.loop-number.number (length c.loop-number.arrivals) _ _ inside c.requires.works (λ s k l h. let p = c.requires.packets s k l h in omega (arith, p))

pub loop-number-preserved : goal.loop-number-preserved
loop-number-preserved c =
    let n = c.loop-number.number in
    let inside : n < length c.args.blocks.now = omega arith in
    let there : n < length c.args.works.now = omega (arith, c.requires.works) in
    arrived-next c.args.cycle.now.number n _ _ _ _ _ _ _ (λ r l. arrived-at c.args.cycle.now.plan.now.pattern.table.ports c.args.works.now n r _ l there) (λ r k l. packets-at c.args.blocks.now n r k _ l inside) c.loop-number.invariant c.arrive_in.ensures
