use Rattle.std.proofs.Common.{arith}
use Rattle.noc_engine.specs.Origins.{net_in}
use Rattle.noc_engine.proofs.WholeLemmas.{next-shown}
use Rattle.noc_engine.proofs.columns.Columns.finish.Goals as goal

pub step-requires : goal.step-requires
step-requires c = record { may = c.requires; routers = omega (arith, c.len-routers.ensures, c.args.self.now.found.ok) }

pub returns-clause-shows : goal.returns-clause-shows
returns-clause-shows c =
    let all = c.args.self.now in
    let has = c.step.ensures.stepped in
    (has.next, next-shown (net_in all.origin) all.tile.cycle has.words has.next all c.step.new.self has.may.shows has.stepped)

pub returns-clause-found : goal.returns-clause-found
returns-clause-found c =
    let long = c.requires.shows.1.found_are in
    c.step.ensures.found (omega (arith, long, c.len-routers.ensures, c.args.self.now.found.ok))
