use Rattle.std.proofs.Common.{map, take}
use Rattle.std.specs.List.{AllZip}
use Rattle.noc_cli.specs.CommandLine.{IsArg, rule_in}
use Rattle.noc_cli.proofs.command_line.args_of.Given as goal

abbrev pub invariant-loop-argument : goal.invariant-loop-argument
invariant-loop-argument l = AllZip IsArg (map rule_in (take l.argument-index l.arguments)) l.args.items
