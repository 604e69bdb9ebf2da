use Rattle.std.proofs.Common.{rules, arith, ◌<◌, length}
use Rattle.noc_tiles.proofs.EndsLemmas.{some_item}
use Rattle.noc_tiles.proofs.partition.find_outlet.Goals as goal

pub unreachable-requires : goal.unreachable-requires
unreachable-requires c =
    let r = c.requires in
    let l : r.0 < c.loop-k.k = let h = r.1 in omega arith in
    let m : r.0 < length c.args.outs.now = let h = r.1 in search (rules, arith) in
    let d = some_item c.args.outs.now r.0 m in
    c.loop-k.invariant r.0 d l (r.2 d)
