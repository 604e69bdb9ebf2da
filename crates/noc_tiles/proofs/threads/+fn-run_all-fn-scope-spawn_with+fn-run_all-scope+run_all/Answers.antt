use Rattle.std.proofs.Common.{rules, arith, ◌<◌, ◌/◌, vec_len, subst, sym, ap, ◌∙◌}
use Rattle.noc_tiles.specs.Tiles.{AllCanRun, Gating}
use Rattle.noc_tiles.specs.declared.threads.PromisedTiles.{PromisedTiles}
use Rattle.noc_tiles.proofs.EndedLemmas.{AllCanRun-take, AllCanRun-drop, both_ended}
use Rattle.noc_tiles.proofs.threads.+fn-run_all-fn-scope-spawn_with+fn-run_all-scope+run_all.Goals as goal

pub scope-returns : goal.scope-returns
scope-returns g t c =
    let p = c.in-Ok.ensures.ok in
    both_ended c.captures.relation.now c.in-Ok.child.promise.relation.now c.captures.stop.now (record { opens = g.G.Gate.opens c.captures.gate.now; shuts = g.G.Gate.shuts c.captures.gate.now }) c.in-Ok.child.promise.stop.now (record { opens = g.G.Gate.opens c.in-Ok.child.promise.gate.now; shuts = g.G.Gate.shuts c.in-Ok.child.promise.gate.now }) c.captures.first.items c.captures.second.items c.in-Ok.child.promise.before.value.items
    c.run_all-first.result c.join-second.result c.joined.result
    (ap (λ (p : PromisedTiles g.row.G.Denot). p.relation.now) p ∙ c.of-promise.ensures.relation) (ap (λ (p : PromisedTiles g.row.G.Denot). p.stop.now) p ∙ c.of-promise.ensures.stop)
    (ap (λ (p : PromisedTiles g.row.G.Denot). (let know : Gating = record { opens = g.G.Gate.opens p.gate.now; shuts = g.G.Gate.shuts p.gate.now } in know)) p
    ∙ ap (λ (gate : g.row.G.Denot). (let know : Gating = record { opens = g.G.Gate.opens gate; shuts = g.G.Gate.shuts gate } in know)) c.of-promise.ensures.gate)
    (ap (λ (p : PromisedTiles g.row.G.Denot). p.before.value.items) p ∙ c.of-promise.ensures.before)
    c.run_all-first.ensures c.join-second.ensures c.joined.ensures.both

pub scoped-requires : goal.scoped-requires
scoped-requires g t c =
    let a : AllCanRun c.args.relation.now c.split_off.new.self.items = subst (AllCanRun c.args.relation.now) (sym c.in-Ok.ensures.items) (AllCanRun-take c.args.relation.now (c.len-count.result / 2) c.args.tiles.items c.requires) in
    let b : AllCanRun c.args.relation.now c.in-Ok.second.items = subst (AllCanRun c.args.relation.now) (sym c.in-Ok.ensures.tail) (AllCanRun-drop c.args.relation.now (c.len-count.result / 2) c.args.tiles.items c.requires) in
    let l : 0 < vec_len c.split_off.new.self = search (rules, arith) in
    let m : 0 < vec_len c.in-Ok.second = search (rules, arith) in
    search rules
