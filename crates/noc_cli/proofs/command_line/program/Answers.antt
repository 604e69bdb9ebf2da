use Rattle.std.proofs.Common.{[], ◌∷◌}
use Rattle.std.proofs.lemmas.Result.{IfOk-weaker}
use Rattle.noc_cli.specs.CommandLine.{check_shape, explain_shape, ranks_shape, run_shape, trace_shape}
use Rattle.noc_cli.proofs.CommandLemmas.{adds_subs}
use Rattle.noc_cli.proofs.command_line.program.Goals as goal

pub returns-in-Ok : goal.returns-in-Ok
returns-in-Ok c =
    let commands = c.in_ok-add_commands.ensures in
    let shapes = run_shape commands.0 ∷ explain_shape ∷ trace_shape ∷ check_shape ∷ ranks_shape ∷ [] in
    IfOk-weaker c.subcommands.result _ _ (λ program adds. (commands.0, commands.1, adds_subs _ shapes _ program _ c.in-Ok.ensures commands.2 adds)) c.subcommands.ensures
