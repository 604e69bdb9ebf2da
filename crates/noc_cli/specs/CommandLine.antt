-- The command line of the program as data: its commands, with the arguments that each takes.
use Rattle.std.specs.Prelude.{◌≡◌, ◌++◌, List, [], ◌∷◌, true, false, Some, codes, map}
use Rattle.std.specs.Borrow.{Bor}
use Rattle.clap.specs.Simple.{new_shape}
use Rattle.clap.specs.Words.{App, Rule, Shape, Text, app_of, new_rule, rule_of}
use Rattle.clap.specs.declared.builder.arg.Arg.{Arg}
use Rattle.clap.specs.declared.builder.action.ArgAction.TheVariants.{SetTrue}
use Rattle.clap.specs.declared.builder.command.Command.{Command}
use Rattle.clap.specs.declared.builder.command.Command.TheViews.{out-Command}
use Rattle.clap.specs.declared.builder.value_parser.ValueParser.{ValueParser}
use Rattle.clap.specs.declared.builder.value_parser.ValueParser.TheVariants as parser
use Rattle.noc_commands.specs.Reports.{report_names}
use Rattle.noc_cli.specs.declared.command_line.Takes.{Takes}
use Rattle.noc_cli.specs.declared.command_line.Takes.TheVariants as takes

-- a file that has to be named
abbrev pub file_arg : Text → Rule
file_arg id = record (new_rule id) { required = true }

-- an option with a value
abbrev pub option_arg : Text → Rule
option_arg id = record (new_rule id) { long = Some id; value_names = 1 }

-- whose value is a number of 64 bits
abbrev pub number_arg : Text → Rule
number_arg id = record (option_arg id) { parser = Some (parser.Unsigned 0 18446744073709551615) }

abbrev pub required_arg : Rule → Rule
required_arg rule = record rule { required = true }

-- an argument with the text that stands for it where it is not given
abbrev pub with_default : Text → Rule → Rule
with_default text rule = record rule { defaults = text ∷ [] }

-- an option without a value
abbrev pub flag_arg : Text → Rule
flag_arg id = record (new_rule id) { long = Some id; action = Some SetTrue }

-- the parser takes the names of the reports
abbrev pub TakesReports : ValueParser → Type 0
TakesReports (parser.Names names) = map (λ name. name.now) names.now ≡ report_names
TakesReports _ = ⊥

abbrev pub report_arg : ValueParser → Rule
report_arg names =
    with_default (codes "latency") (record (option_arg (codes "report")) { parser = Some names })

abbrev pub command_shape : Text → List Rule → Shape
command_shape name rules = record (new_shape name) { rules = rules }

abbrev pub run_shape : ValueParser → Shape
run_shape names =
    command_shape (codes "run")
    (file_arg (codes "CONFIG") ∷ file_arg (codes "TRAFFIC") ∷ option_arg (codes "table")
    ∷ option_arg (codes "ranks") ∷ with_default (codes "1") (number_arg (codes "workers"))
    ∷ flag_arg (codes "drain") ∷ report_arg names ∷ [])

abbrev pub explain_shape : Shape
explain_shape =
    command_shape (codes "explain")
    (file_arg (codes "CONFIG") ∷ file_arg (codes "TRAFFIC")
    ∷ required_arg (number_arg (codes "cycle")) ∷ required_arg (number_arg (codes "router"))
    ∷ option_arg (codes "table") ∷ [])

abbrev pub trace_shape : Shape
trace_shape =
    command_shape (codes "trace")
    (file_arg (codes "CONFIG") ∷ file_arg (codes "TRAFFIC") ∷ number_arg (codes "from")
    ∷ number_arg (codes "to") ∷ number_arg (codes "router") ∷ number_arg (codes "packet")
    ∷ option_arg (codes "verdict") ∷ flag_arg (codes "changes") ∷ option_arg (codes "table") ∷ [])

abbrev pub check_shape : Shape
check_shape =
    command_shape (codes "check") (file_arg (codes "CONFIG")
    ∷ required_arg (option_arg (codes "ranks")) ∷ option_arg (codes "table") ∷ [])

abbrev pub ranks_shape : Shape
ranks_shape =
    command_shape (codes "ranks") (file_arg (codes "CONFIG") ∷ option_arg (codes "table") ∷ [])

-- the program before its commands, which tells its version
abbrev pub program_shape : Shape
program_shape = record (new_shape (codes "noc")) { has_version = true }

abbrev pub command_line : ValueParser → App
command_line names = record {
  top = record program_shape { is_leaf = false };
  subs = run_shape names ∷ explain_shape ∷ trace_shape ∷ check_shape ∷ ranks_shape ∷ [];
}

-- what an argument takes, by its id
abbrev pub rule_of_kind : Text → Takes → Rule
rule_of_kind id takes.File = file_arg id
rule_of_kind id takes.Nothing = flag_arg id
rule_of_kind id (takes.Text value) = option_arg id
rule_of_kind id (takes.NeededText value) = required_arg (option_arg id)
rule_of_kind id (takes.Number value) = number_arg id
rule_of_kind id (takes.NeededNumber value) = required_arg (number_arg id)
rule_of_kind id (takes.Count value) = with_default (codes "1") (number_arg id)
rule_of_kind id (takes.Report value names) =
    with_default (codes "latency") (record (option_arg id) { parser = Some (parser.Names names) })

abbrev pub rule_in : Bor Text × Takes × Bor Text → Rule
rule_in (id, kind, help) = rule_of_kind id.now kind

-- the command of a table: its name, two texts of help, and its arguments
abbrev pub shape_in : Bor Text × Bor Text × Bor Text × Bor (List (Bor Text × Takes × Bor Text)) → Shape
shape_in (name, about, after_help, arguments) =
    command_shape name.now (map rule_in arguments.now)

-- ---- what clap holds of them

-- the argument has these rules, in its own command
abbrev pub IsArg : Rule → Arg → Type 0
IsArg rule arg = (rule_of arg ≡ rule) × (arg.global ≡ false)

-- the command has these arguments and no command below it
abbrev pub IsLeaf : Shape → Command → Type 0
IsLeaf shape command =
    (app_of command ≡ record { top = shape; subs = [] })
    × ((out-Command command).has_globals ≡ false)

-- such a command was added
abbrev pub AddsLeaf : Shape → List Command → List Command → Type 0
AddsLeaf shape old new = (command : Command) × (new ≡ old ++ command ∷ []) × IsLeaf shape command

-- the command is the program's
abbrev pub IsProgram : Command → Type 0
IsProgram command =
    (names : ValueParser) × TakesReports names × (app_of command ≡ command_line names)
