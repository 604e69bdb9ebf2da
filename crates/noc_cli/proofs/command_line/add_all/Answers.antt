use Rattle.std.proofs.Common.{[], subst, sym}
use Rattle.std.specs.List.{AllZip}
use Rattle.noc_cli.specs.CommandLine.{IsLeaf, shape_in}
use Rattle.noc_cli.proofs.CommandLemmas.{one_more}
use Rattle.noc_cli.proofs.command_line.add_all.Goals as goal

pub loop-subcommand-init : goal.loop-subcommand-init
loop-subcommand-init c = subst (AllZip IsLeaf []) (sym c.requires) tt

pub loop-subcommand-preserved : goal.loop-subcommand-preserved
loop-subcommand-preserved c =
    let added = c.in_ok-add_command.ensures in
    one_more shape_in IsLeaf _ _ _ c.loop-subcommand.subcommand-index _ added.0 c.loop-subcommand-test.true c.loop-subcommand.invariant added.2 added.1
