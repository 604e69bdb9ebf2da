use Rattle.std.proofs.Common.{◌*◌, ◌<◌, ℕ, subst, sym, arith}
use Rattle.noc_route.proofs.EntryLemmas.{pair-first, pair-second}
use Rattle.noc_route.proofs.gather.Table.gather_number.Goals as goal

pub gather_pair-requires-clause-router : goal.gather_pair-requires-clause-router
gather_pair-requires-clause-router c =
    let f = c.args.self.now.map.now.sizes in
    let P : ℕ → Type 0 = λ n. c.args.pair < n * n in
    pair-first f.node_count _ c.args.pair f.all_nodes (omega (arith, f.some_nodes)) (subst P (sym f.all_nodes) c.requires.pair)

pub gather_pair-requires-clause-dst : goal.gather_pair-requires-clause-dst
gather_pair-requires-clause-dst c =
    let f = c.args.self.now.map.now.sizes in
    pair-second f.node_count _ c.args.pair f.all_nodes (omega (arith, f.some_nodes))
