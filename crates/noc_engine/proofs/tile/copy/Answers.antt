use Rattle.std.proofs.Common.{arith}
use Rattle.noc_engine.proofs.ListLemmas.{filled-whole}
use Rattle.noc_engine.proofs.tile.copy.Goals as goal

pub returns-clause-same : goal.returns-clause-same
returns-clause-same c =
    let fits = c.extend_from_slice.ensures.succeeds (omega (arith, c.requires, c.clear.ensures.len, c.clear.ensures.capacity)) in
    filled-whole c.extend_from_slice.result _ _ _ fits c.clear.ensures.items c.extend_from_slice.ensures.items

pub returns-clause-room : goal.returns-clause-room
returns-clause-room c = omega (arith, c.clear.ensures.capacity, c.extend_from_slice.ensures.capacity)
