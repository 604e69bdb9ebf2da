use Rattle.noc_cli.specs.CommandLine.{IsArg, rule_in}
use Rattle.noc_cli.proofs.CommandLemmas.{one_more}
use Rattle.noc_cli.proofs.command_line.args_of.Goals as goal

pub loop-argument-preserved : goal.loop-argument-preserved
loop-argument-preserved c =
    one_more rule_in IsArg c.args.arguments.now c.loop-argument.args.items c.push.new.self.items c.loop-argument.argument-index _ c.arg_of.result c.loop-argument-test.true c.loop-argument.invariant c.arg_of.ensures
    c.in_ok-push.ensures.items
