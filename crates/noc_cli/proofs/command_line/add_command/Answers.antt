use Rattle.std.proofs.Common.{rules}
use Rattle.clap.specs.Simple.{new_shape}
use Rattle.noc_cli.specs.CommandLine.{IsLeaf}
use Rattle.noc_cli.proofs.CommandLemmas.{with_args}
use Rattle.noc_cli.proofs.command_line.add_command.Goals as goal

pub returns : goal.returns
returns c =
    let start : IsLeaf (new_shape c.args.subcommand.now.0.now) c.after_help.result = search rules in
    (c.in_ok-command.command, c.in_ok-push.ensures.items, with_args _ _ _ c.in_ok-command.command _ start c.in_ok-args.ensures c.in_ok-command.ensures)
