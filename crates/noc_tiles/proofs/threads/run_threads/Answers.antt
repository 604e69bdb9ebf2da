use Rattle.std.proofs.Common.{rules, arith, ◌+◌, ◌<◌, Bool, List, length, get_or, refl, ap, subst, sym, ◌∙◌}
use Rattle.noc_net.specs.Parts.{setup_in}
use Rattle.noc_tiles.specs.Tiles.{AllCanRun, AllEnded, Gating}
use Rattle.noc_tiles.specs.Partition.{AllWhole, AreCut, AreDone}
use Rattle.noc_tiles.specs.declared.partition.Kept.{Kept}
use Rattle.noc_tiles.specs.declared.tile.Tile.{Tile}
use Rattle.noc_tiles.proofs.BoundaryLemmas.{all_asked}
use Rattle.noc_tiles.proofs.DoneLemmas.{tiles-fit}
use Rattle.noc_tiles.proofs.GatherLemmas.{tile_in, all_can}
use Rattle.noc_tiles.proofs.threads.run_threads.Goals as goal

pub run_all-requires-after_bounds : goal.run_all-requires-after_bounds
run_all-requires-after_bounds g c =
    let W = c.in-Ok.ensures.partition in
    let h : AllCanRun c.args.kept.now.parts.relation c.in-Ok.tiles.items = all_can c.args.kept.now.parts.relation c.in-Ok.tiles.items (λ t d l. (W.tiles t d l).can) in
    search rules

-- the tiles that came back have made their cycles
done : (s : Bool) (o : Gating) (f : Kept) (xs ys : List Tile) → AreCut f xs → AllEnded f.parts.relation s o xs ys → AllWhole ys → AreDone f ys
done s o f xs ys C ended whole = record { ins = C.ins; outs = C.outs; cut = xs; partition = C.partition; stop = s; gate = o; ended = ended; whole = whole }

pub gather-requires : goal.gather-requires
gather-requires g c = tiles-fit c.in-Ok-run_all.tiles (done _ _ c.args.kept.now c.in-Ok.tiles.items c.in-Ok-run_all.tiles.items c.in-Ok.ensures c.in-Ok-run_all.ensures (subst AllWhole c.deref.ensures.value (c.if-not-all_whole.ensures.0 refl)))

pub returns-clause-done : goal.returns-clause-done
returns-clause-done g c = (
  c.in-Ok-run_all.tiles.items,
  done _ _ c.args.kept.now c.in-Ok.tiles.items c.in-Ok-run_all.tiles.items c.in-Ok.ensures c.in-Ok-run_all.ensures (subst AllWhole c.deref.ensures.value (c.if-not-all_whole.ensures.0 refl)),
  c.in-Ok-gather.ensures,
)

pub returns-clause-asked : goal.returns-clause-asked
returns-clause-asked g c = λ w k low within.
    let W = c.in-Ok.ensures.partition in
    let net = setup_in c.args.kept.now.parts in
    let xs = c.in-Ok.tiles.items in
    let d = tile_in net c.args.kept.now.parts.count c.args.kept.now.cycles c.in-Ok.ensures.ins c.in-Ok.ensures.outs xs W in
    let here : w < length xs = (let n = c.in-Ok.ensures.numbered.count in omega arith) in
    let know : Gating = record { opens = g.G.Gate.opens c.args.gate.now; shuts = g.G.Gate.shuts c.args.gate.now } in
    let tile = W.tiles w d here in
    let cycles = tile.cycles in
    let free = all_asked net.relation c.new-stop.result know xs c.in-Ok-run_all.tiles.items c.in-Ok-run_all.ensures (subst AllWhole c.deref.ensures.value (c.if-not-all_whole.ensures.0 refl)) w d here k (omega arith) in
    sym (ap (λ m. g.G.Gate.shuts c.args.gate.now m ((get_or xs w d).start + k)) (c.in-Ok.ensures.numbered.worker w d here) ∙ ap (λ m. g.G.Gate.shuts c.args.gate.now w (m + k)) tile.start) ∙ free
