use Rattle.std.proofs.Common.{map, take}
use Rattle.std.specs.List.{AllZip}
use Rattle.noc_cli.specs.CommandLine.{IsLeaf, shape_in}
use Rattle.noc_cli.proofs.command_line.add_all.Given as goal

abbrev pub invariant-loop-subcommand : goal.invariant-loop-subcommand
invariant-loop-subcommand l = AllZip IsLeaf (map shape_in (take l.subcommand-index l.subcommands)) l.commands.items
