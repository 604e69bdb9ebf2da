use Rattle.std.proofs.Common.{arith}
use Rattle.noc_engine.proofs.RunLemmas.{all-run, may-go-on, none-run, some-run}
use Rattle.noc_engine.proofs.columns.Columns.go.Goals as goal

pub loop-left-init : goal.loop-left-init
loop-left-init c = none-run c.args.relation.now c.args.cycles c.args.self.now c.requires

pub advance-left-requires : goal.advance-left-requires
advance-left-requires c = record {
  some = omega (arith, c.loop-left-test.true);
  may = may-go-on c.args.relation.now c.args.cycles c.args.self.now c.requires c.loop-left.left c.loop-left.self c.loop-left.invariant;
}

pub loop-left-preserved : goal.loop-left-preserved
loop-left-preserved c =
    some-run c.args.relation.now c.args.cycles c.args.self.now c.requires c.loop-left.left c.loop-left.self c.loop-left.invariant c.advance-left.result c.advance-left.new.self
    c.advance-left.ensures.within c.advance-left.ensures.shows

pub returns : goal.returns
returns c = all-run c.args.relation.now c.args.cycles c.args.self.now c.requires c.loop-left.self c.loop-left.left (omega (arith, c.loop-left-test.false)) c.loop-left.invariant
