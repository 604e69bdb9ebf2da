use Rattle.noc_engine.proofs.EngineLemmas.{engine-shows}
use Rattle.noc_engine.proofs.ReaderLemmas.{an-event, last-read, no-event}
use Rattle.noc_engine.proofs.engine.Engine.last_event.Goals as goal

pub returns-then-last-eq0 : goal.returns-then-last-eq0
returns-then-last-eq0 c =
    let u = c.args.self.now in
    let all = c.self.inside.columns in
    let shows = engine-shows c.self.inside c.self.invariant u c.self.view_is in
    no-event all.tile.last _ c.if-last-eq0.true (last-read u.net u.count shows.0 all shows.1)

pub returns-else-last-eq0 : goal.returns-else-last-eq0
returns-else-last-eq0 c =
    let u = c.args.self.now in
    let all = c.self.inside.columns in
    let shows = engine-shows c.self.inside c.self.invariant u c.self.view_is in
    an-event all.tile.last c.from.result _ c.if-last-eq0.false c.from.ensures (last-read u.net u.count shows.0 all shows.1)
