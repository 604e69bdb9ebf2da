-- What arguments ask for.
use Rattle.std.specs.Prelude.{◌≡◌, ◌≢◌, ◌<◌, ◌≤◌, List, ℕ, None, ⊤, is_some, length}
use Rattle.clap.specs.Words.{kind_of}
use Rattle.clap.specs.declared.error.Error.{Error}
use Rattle.clap.specs.declared.error.kind.ErrorKind.TheVariants.{DisplayVersion}
use Rattle.noc_requests.specs.declared.request.Request.{Request}
use Rattle.noc_cli.specs.Args.{IsAskedBy, IsRefusal}
use Rattle.noc_cli.specs.declared.args.Args.{Args}
use Rattle.noc_commands.specs.Workers.{HasWorkers}
use Rattle.noc_commands.specs.declared.command.Command.TheVariants.{Joined}
use Rattle.noc_asked.specs.declared.asked.Asked.{Asked}
use Rattle.noc_asked.specs.declared.asked.Asked.TheVariants.{Answer, Version}
use Rattle.noc_program.specs.declared.arguments.Refusal.{Refusal}
use Rattle.noc_program.specs.declared.arguments.Refusal.TheVariants as refusal

-- these words, of which the first is the program's name, make this request: without another word
-- that of a joined text; else they name its command, and which files it has
pub data Asks (words : List (List ℕ)) (r : Request) : Type 0 where
  joins : length words ≤ 1 → r.command ≡ Joined → r.table ≡ None → r.ranks ≡ None → Asks words r
  names : {args : Args} → 1 < length words → IsAskedBy words args → r.command ≡ args.command
      → is_some r.table ≡ is_some args.table → is_some r.ranks ≡ is_some args.ranks → Asks words r

-- the version is asked for
abbrev pub AsksForVersion : List (List ℕ) → Type 0
AsksForVersion words = (error : Error) × IsRefusal words error × (kind_of error ≡ DisplayVersion)

-- these words ask for this
abbrev pub IsAskedAs : List (List ℕ) → Asked → Type 0
IsAskedAs words (Answer request) = Asks words request × HasWorkers request.command
IsAskedAs words Version = AsksForVersion words

-- why these words ask for nothing
abbrev pub IsRefusedAs : List (List ℕ) → Refusal → Type 0
IsRefusedAs words refusal.Memory = ⊤
IsRefusedAs words (refusal.NotText number) = ⊥
IsRefusedAs words (refusal.Args error) = IsRefusal words error × (kind_of error ≢ DisplayVersion)
