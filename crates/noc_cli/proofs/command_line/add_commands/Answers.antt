use Rattle.std.proofs.Common.{refl}
use Rattle.std.proofs.lemmas.Result.{IfOk-weaker}
use Rattle.clap.specs.declared.builder.value_parser.ValueParser.TheVariants as parser
use Rattle.noc_cli.proofs.command_line.add_commands.Goals as goal

pub returns : goal.returns
returns c = IfOk-weaker c.add_all.result _ _ (λ _ leaves. (parser.Names _, refl, leaves)) c.add_all.ensures
