use Rattle.std.proofs.Common.{◌+◌, ◌-◌, arith, subst}
use Rattle.noc_theory.specs.Network.{Setup}
use Rattle.noc_engine.specs.Origins.{net_in}
use Rattle.noc_engine.specs.Runs.{AreFindings, ShowsRun}
use Rattle.noc_engine.proofs.RunLemmas.{may-fewer, may-run, then-shown}
use Rattle.noc_engine.proofs.columns.Columns.run.Goals as goal

pub go-requires : goal.go-requires
go-requires c = may-fewer c.args.relation.now c.args.cycles (c.args.cycles - 1) c.args.self.now (omega arith) c.requires

pub finish-requires : goal.finish-requires
finish-requires c =
    let all = c.args.self.now in
    let within = c.requires.within in
    may-run (net_in all.origin) (all.tile.cycle + (c.args.cycles - 1)) c.go.new.self c.go.ensures c.args.relation.now 1 c.requires.is (omega (arith, within, c.if-cycles-gt0.true))

pub returns-then-cycles-gt0-clause-shows : goal.returns-then-cycles-gt0-clause-shows
returns-then-cycles-gt0-clause-shows c =
    let all = c.args.self.now in
    subst (λ k. ShowsRun (net_in all.origin) k c.finish.new.self) (omega (arith, c.if-cycles-gt0.true))
    (then-shown (net_in all.origin) (all.tile.cycle + (c.args.cycles - 1)) c.go.new.self c.go.ensures 1 c.finish.new.self c.finish.ensures.shows)

pub returns-then-cycles-gt0-clause-found : goal.returns-then-cycles-gt0-clause-found
returns-then-cycles-gt0-clause-found c = λ some. subst (λ (m : Setup). AreFindings m c.finish.new.self) c.go.ensures.1.made c.finish.ensures.found

pub returns-else-cycles-gt0-clause-shows : goal.returns-else-cycles-gt0-clause-shows
returns-else-cycles-gt0-clause-shows c = let all = c.args.self.now in subst (λ k. ShowsRun (net_in all.origin) k all) (omega (arith, c.if-cycles-gt0.false)) c.requires.shows
