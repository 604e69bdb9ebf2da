use Rattle.noc_engine.proofs.EngineLemmas.{engine-found, engine-shows}
use Rattle.noc_engine.proofs.engine.Engine.into_columns.Goals as goal

pub returns-clause-shows : goal.returns-clause-shows
returns-clause-shows c = engine-shows c.self.inside c.self.invariant c.args.self c.self.view_is

pub returns-clause-found : goal.returns-clause-found
returns-clause-found c = engine-found c.self.inside c.self.invariant c.args.self c.self.view_is
