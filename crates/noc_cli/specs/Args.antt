-- What the arguments of the command line say.
use Rattle.std.specs.Prelude.{◌≡◌, ◌≢◌, ◌⊎◌, ◌<◌, ◌≤◌, ◌^◌, ℕ, All, Bool, true, false, List, Option, Some, None, codes, option_map}
use Rattle.std.specs.Str.Parse.{IsNumeral, digits_value, without_leading_plus}
use Rattle.clap.specs.Kinds.{IsAmong}
use Rattle.clap.specs.Words.{Row, Text, fault_of, first_value, kind_of, one_text, rows_of, subcommand_of}
use Rattle.clap.specs.declared.builder.value_parser.ValueParser.{ValueParser}
use Rattle.clap.specs.declared.error.Error.{Error}
use Rattle.clap.specs.declared.error.kind.ErrorKind.{ErrorKind}
use Rattle.clap.specs.declared.error.kind.ErrorKind.TheVariants.{MissingSubcommand, OutOfMemory, ValueValidation}
use Rattle.clap.specs.declared.parser.matches.Found.{Found}
use Rattle.noc_commands.specs.declared.command.Command.{Command}
use Rattle.noc_commands.specs.declared.command.Command.TheVariants.{Joined, Run, Explain, Trace, Check, Ranks}
use Rattle.noc_commands.specs.declared.report.Report.{Report}
use Rattle.noc_commands.specs.declared.report.Report.TheVariants.{Latency}
use Rattle.noc_commands.specs.declared.command.TheConstants.{MAX_WORKERS}
use Rattle.noc_commands.specs.Reports.{report_names, name_of}
use Rattle.noc_commands.specs.Verdicts.{Names, NamesNone}
use Rattle.noc_commands.specs.declared.verdicts.VerdictSet.{VerdictSet}
use Rattle.noc_cli.specs.CommandLine.{TakesReports, command_line}
use Rattle.noc_cli.specs.declared.args.Args.{Args}

-- a number of 64 bits in decimal digits, with or without a plus before them
abbrev pub IsNumber : List ℕ → Type 0
IsNumber text =
    IsNumeral 10 (without_leading_plus text)
    × (digits_value 10 (without_leading_plus text) < 2 ^ 64)

-- the number that an argument says, if there is an argument and it is a number (no other argument
-- comes through `clap`'s rules)
abbrev pub IsSaidIfAny : Option (List ℕ) → Option ℕ → Type 0
IsSaidIfAny None n = n ≡ None
IsSaidIfAny (Some text) (Some n) = IsNumber text × (n ≡ digits_value 10 (without_leading_plus text))
IsSaidIfAny (Some text) None = IsNumber text → ⊥

-- the arguments say this number of workers
abbrev pub SaysWorkers : Found → ℕ → Type 0
SaysWorkers found workers = IsSaidIfAny (one_text found (codes "workers")) (Some workers)

-- they say no number of workers from 1 to MAX_WORKERS
abbrev pub SaysNoWorkers : Found → Type 0
SaysNoWorkers found =
    IsSaidIfAny (one_text found (codes "workers")) None
    ⊎ ((n : ℕ) × SaysWorkers found n × ((n < 1) ⊎ (MAX_WORKERS < n)))

-- the report that an argument names, and the latency report where there is no argument
abbrev pub IsReport : Option Text → Report → Type 0
IsReport arg report =
    (arg ≡ Some (name_of report)) ⊎ ((arg ≡ None) × (report ≡ Latency))

-- there is an argument, and it names no report
abbrev pub IsNoReport : Option Text → Type 0
IsNoReport None = ⊥
IsNoReport (Some text) = All (λ other. text ≢ other) report_names

-- the verdicts that an argument names, and none where there is no argument
abbrev pub AreVerdicts : Option Text → Option VerdictSet → Type 0
AreVerdicts None verdicts = verdicts ≡ None
AreVerdicts (Some text) (Some set) = Names text set
AreVerdicts (Some text) None = ⊥

-- there is an argument, and it does not name verdicts
abbrev pub AreNoVerdicts : Option Text → Type 0
AreNoVerdicts None = ⊥
AreNoVerdicts (Some text) = NamesNone text

-- whether a flag is up
pub record IsFlag (arg : Option Text) (is_up : Bool) : Type 0 where
  pub none : arg ≡ None → is_up ≡ false
  pub up : arg ≡ Some (codes "true") → is_up ≡ true
  pub down : arg ≡ Some (codes "false") → is_up ≡ false

-- the command of a name, by what is found of its arguments
abbrev pub IsCommand : Found → Text → Command → Type 0
IsCommand found name Joined = ⊥
IsCommand found name (Run workers report drain) =
    (name ≡ codes "run") × SaysWorkers found workers × (0 < workers) × (workers ≤ MAX_WORKERS)
    × IsReport (first_value found (codes "report")) report
    × IsFlag (one_text found (codes "drain")) drain
IsCommand found name (Explain cycle router) =
    (name ≡ codes "explain") × IsSaidIfAny (one_text found (codes "cycle")) (Some cycle)
    × IsSaidIfAny (one_text found (codes "router")) (Some router)
IsCommand found name (Trace from to router packet verdicts changes) =
    (name ≡ codes "trace") × IsSaidIfAny (one_text found (codes "from")) from
    × IsSaidIfAny (one_text found (codes "to")) to
    × IsSaidIfAny (one_text found (codes "router")) router
    × IsSaidIfAny (one_text found (codes "packet")) packet
    × AreVerdicts (first_value found (codes "verdict")) verdicts
    × IsFlag (one_text found (codes "changes")) changes
IsCommand found name Check = name ≡ codes "check"
IsCommand found name Ranks = name ≡ codes "ranks"

-- no command has the name, or it is `run` with no number of workers from 1 to MAX_WORKERS or with
-- what names no report, or `explain` without a cycle or a router, or `trace` with what names no
-- verdicts
abbrev pub IsNoCommand : Found → Text → Type 0
IsNoCommand found name = ((name ≡ codes "run")
    × (SaysNoWorkers found ⊎ IsNoReport (first_value found (codes "report"))))
    ⊎ (((name ≡ codes "explain")
    × (IsSaidIfAny (one_text found (codes "cycle")) None
    ⊎ IsSaidIfAny (one_text found (codes "router")) None))
    ⊎ (((name ≡ codes "trace") × AreNoVerdicts (first_value found (codes "verdict")))
    ⊎ ((name ≢ codes "run") × (name ≢ codes "explain") × (name ≢ codes "trace")
    × (name ≢ codes "check") × (name ≢ codes "ranks"))))

-- the names of a command's files
pub record NamesFiles (found : Found) (args : Args) : Type 0 where
  pub config : first_value found (codes "CONFIG") ≡ Some args.config.now
  pub table : option_map (λ name. name.now) args.table ≡ first_value found (codes "table")
  pub ranks : option_map (λ name. name.now) args.ranks ≡ first_value found (codes "ranks")
  pub traffic : option_map (λ name. name.now) args.traffic ≡ first_value found (codes "TRAFFIC")

-- the command that was met among arguments, with the rows that were found of its own, says this
pub record IsRequestIn (met : Option (Text × List Row)) (args : Args) : Type 0 where
  pub name : Text
  pub found : Found
  pub said : met ≡ Some (name, rows_of found)
  pub command : IsCommand found name args.command
  pub files : NamesFiles found args

-- no command was met among arguments, or what was met is none, or it names no configuration: what
-- is told of that
abbrev pub IsNoRequest : Option (Text × List Row) → ErrorKind → Type 0
IsNoRequest None kind = kind ≡ MissingSubcommand
IsNoRequest (Some met) kind = (found : Found) × (met.1 ≡ rows_of found)
    × (IsNoCommand found met.0 ⊎ (first_value found (codes "CONFIG") ≡ None))
    × (kind ≡ ValueValidation)

-- the arguments behind the program's name name a command, and this is what they say of it
abbrev pub IsAskedBy : List Text → Args → Type 0
IsAskedBy texts args =
    (names : ValueParser) × TakesReports names
    × IsRequestIn (subcommand_of (command_line names) texts) args

-- why the arguments are refused: memory ran out; clap's rules find this fault in them, or a request
-- for help; they make no request
pub data IsRefusal (texts : List Text) (error : Error) : Type 0 where
  no_memory : kind_of error ≡ OutOfMemory → IsRefusal texts error
  by_rules : (names : ValueParser) → TakesReports names
      → IsAmong (kind_of error) (fault_of (command_line names) texts) → IsRefusal texts error
  no_request : (names : ValueParser) → TakesReports names
      → IsNoRequest (subcommand_of (command_line names) texts) (kind_of error)
      → IsRefusal texts error
