-- What words ask for, by what their arguments do.
use Rattle.std.proofs.Common.{ℕ, ◌<◌, List, length, subst, sym}
use Rattle.noc_cli.specs.Args.{IsAskedBy}
use Rattle.noc_cli.specs.declared.args.Args.{Args}
use Rattle.noc_commands.specs.Workers.{HasWorkers}
use Rattle.noc_asked.specs.Asked.{AsksAs}
use Rattle.noc_asked.specs.declared.asked.Asked.{Asked}
use Rattle.noc_asked.specs.declared.asked.Asked.TheVariants.{Answer, Version}
use Rattle.noc_program.specs.Requests.{IsAskedAs, names}

pub asked-as : (words : List (List ℕ)) (args : Args) (asked : Asked) → 1 < length words → IsAskedBy words args → HasWorkers args.command → AsksAs args asked → IsAskedAs words asked
asked-as words args (Answer request) more said workers made = (names {args = args} more said made.0 made.1 made.2, subst HasWorkers (sym made.0) workers)
asked-as words args Version more said workers made = absurd made
