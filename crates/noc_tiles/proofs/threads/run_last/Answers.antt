use Rattle.std.proofs.Common.{◌≡◌, ◌++◌, ◌∷◌, [], Option, ap, ◌∙◌, rules, arith}
use Rattle.std.specs.Prelude.{option_to_list}
use Rattle.noc_tiles.specs.Tiles.{CanRun, Gating}
use Rattle.noc_tiles.specs.declared.tile.Tile.{Tile}
use Rattle.noc_tiles.proofs.EndedLemmas.{last-can, last-ended}
use Rattle.noc_tiles.proofs.threads.run_last.Goals as goal

pub run_tile-ended-requires : goal.run_tile-ended-requires
run_tile-ended-requires g c =
    let items : c.args.tiles.items ≡ c.pop.new.self.items ++ c.in-Some.tile ∷ [] = c.pop.ensures.items ∙ ap (λ (o : Option Tile). c.pop.new.self.items ++ option_to_list o) c.in-Some.is in
    let can : CanRun c.args.relation.now c.in-Some.tile = last-can c.args.relation.now c.args.tiles.items c.pop.new.self.items c.in-Some.tile items c.requires.can in
    search rules

pub returns : goal.returns
returns g c =
    let know : Gating = record { opens = g.G.Gate.opens c.args.gate.now; shuts = g.G.Gate.shuts c.args.gate.now } in
    let items : c.args.tiles.items ≡ c.pop.new.self.items ++ c.in-Some.tile ∷ [] = c.pop.ensures.items ∙ ap (λ (o : Option Tile). c.pop.new.self.items ++ option_to_list o) c.in-Some.is in
    last-ended c.args.relation.now c.args.stop.now know c.args.tiles.items c.pop.new.self.items c.push_reserved.new.self.items c.in-Some.tile c.run_tile-ended.result items (omega (arith, c.requires.one, c.args.tiles.ok.0)) c.push_reserved.ensures.items
    (record { same = c.run_tile-ended.ensures.same; whole = c.run_tile-ended.ensures.whole; ran = c.run_tile-ended.ensures.ran; asked = c.run_tile-ended.ensures.asked; closed = c.run_tile-ended.ensures.closed; stopped = c.run_tile-ended.ensures.stopped })
