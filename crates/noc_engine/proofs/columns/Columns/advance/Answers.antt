use Rattle.std.proofs.Common.{arith}
use Rattle.noc_engine.proofs.RunLemmas.{just-run, may-fewer, some-follow}
use Rattle.noc_engine.proofs.columns.Columns.advance.Goals as goal

pub step-requires-clause-may : goal.step-requires-clause-may
step-requires-clause-may c = may-fewer c.args.relation.now c.args.most 1 c.args.self.now (omega (arith, c.requires.some)) c.requires.may

pub wait-requires : goal.wait-requires
wait-requires c = (c.args.self.now.tile.cycle, just-run c.args.relation.now c.args.most c.args.self.now c.requires.some c.requires.may c.step.new.self c.step.ensures.stepped)

pub returns-clause-shows : goal.returns-clause-shows
returns-clause-shows c =
    some-follow c.args.relation.now c.args.most c.args.self.now c.requires.some c.requires.may c.step.new.self c.wait.result c.wait.new.self c.step.ensures.stepped c.wait.ensures.shows
