use Rattle.std.proofs.Common.{arith, ◌∙◌}
use Rattle.std.proofs.lemmas.Grind.{get_or_default_zero}
use Rattle.noc_engine.proofs.EngineLemmas.{engine-shows}
use Rattle.noc_engine.proofs.ReaderLemmas.{an-arrival, arrival-read, no-arrival}
use Rattle.noc_engine.proofs.engine.Engine.arrival.Goals as goal

pub index-cycle-requires : goal.index-cycle-requires
index-cycle-requires c =
    let shows = engine-shows c.self.inside c.self.invariant c.args.self.now c.self.view_is in
    let long = shows.1.tile.lists.arrivals_are in
    omega (arith, c.requires, long, c.self.inside.columns.tile.arrivals.ok.0)

pub returns-then-cycle : goal.returns-then-cycle
returns-then-cycle c =
    let u = c.args.self.now in
    let all = c.self.inside.columns in
    let shows = engine-shows c.self.inside c.self.invariant u c.self.view_is in
    let word = c.index-cycle.result.now in
    let long = shows.1.tile.lists.arrivals_are in
    no-arrival word _ _ c.if-cycle.true (c.index-cycle.ensures ∙ get_or_default_zero all.tile.arrivals.items c.args.packet word (omega (arith, c.requires, long))) (arrival-read u.net u.count shows.0 all shows.1 c.args.packet c.requires)

pub returns-else-cycle : goal.returns-else-cycle
returns-else-cycle c =
    let u = c.args.self.now in
    let all = c.self.inside.columns in
    let shows = engine-shows c.self.inside c.self.invariant u c.self.view_is in
    let word = c.index-cycle.result.now in
    let long = shows.1.tile.lists.arrivals_are in
    an-arrival word c.from.result _ _ c.if-cycle.false c.from.ensures (c.index-cycle.ensures ∙ get_or_default_zero all.tile.arrivals.items c.args.packet word (omega (arith, c.requires, long))) (arrival-read u.net u.count shows.0 all shows.1 c.args.packet c.requires)
