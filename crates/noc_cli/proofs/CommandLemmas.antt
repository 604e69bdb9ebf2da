-- The command line of the program, as clap parses it.
use Rattle.std.proofs.Common.{◌≡◌, ◌∙◌, ◌++◌, ◌∷◌, ◌+◌, ◌<◌, ℕ, [], List, Option, Some, None, append-nil, append_assoc, ap, ap₂, get_or, inl, inr, length, lit<, lit≤, map, refl, subst, sym, take, true}
use Rattle.std.specs.Prelude.{◌||◌, ◌⊎◌, option_map}
use Rattle.std.specs.List.{AllZip}
use Rattle.std.proofs.lemmas.List.{map_more}
use Rattle.std.specs.Box.{box_value}
use Rattle.clap.proofs.OnLiterals.{clap_on_literals}
use Rattle.clap.specs.Faults.{fault_of, is_simple_and_free}
use Rattle.clap.specs.Kinds.{HasKind, IsAmong}
use Rattle.clap.specs.Values.{kind_of}
use Rattle.clap.specs.Matches.{found_of, subcommand_name_of}
use Rattle.clap.specs.Walk.{Row, Rule, Text, rows_of}
use Rattle.clap.specs.Built.{AddsArg, AddsInTurn, AddsSubcommand}
use Rattle.clap.specs.Simple.{App, Shape, app_of, is_simple, subcommand_of, subcommand_rows_of, with_rule, with_subcommand}
use Rattle.clap.specs.declared.builder.arg.Arg.{Arg}
use Rattle.clap.specs.declared.builder.command.Command.{Command}
use Rattle.clap.specs.declared.builder.value_parser.ValueParser.{ValueParser}
use Rattle.clap.specs.declared.error.Error.{Error}
use Rattle.clap.specs.declared.error.kind.ErrorKind.TheVariants.{OutOfMemory}
use Rattle.clap.specs.declared.parser.matches.ArgMatches.{ArgMatches}
use Rattle.clap.specs.declared.parser.matches.ArgMatches.TheViews.{out-ArgMatches, out-SubCommand}
use Rattle.clap.specs.declared.parser.matches.Found.{Found}
use Rattle.noc_commands.specs.Workers.{HasWorkers}
use Rattle.noc_commands.specs.declared.command.Command.{Command as Asked}
use Rattle.noc_commands.specs.declared.command.Command.TheVariants as asked
use Rattle.noc_cli.specs.Args.{IsCommand, IsNoRequest, IsRefusal, by_rules, no_memory, no_request}
use Rattle.noc_cli.specs.CommandLine.{IsArg, IsLeaf, TakesReports, command_line}

-- clap's arguments tell its matches exactly
pub line_is_simple : (names : ValueParser) → is_simple (command_line names) ≡ true
unfolding clap_on_literals
line_is_simple names = refl

-- clap's arguments tell the faults exactly, since no argument has a rule on another one
pub line_is_free : (names : ValueParser) → is_simple_and_free (command_line names) ≡ true
unfolding clap_on_literals
line_is_free names = refl

-- two parts of what may be there, together
both : {B X Y : Type 0} (f : B → X) (g : B → Y) (o : Option B) (x : X) (y : Y) → Some x ≡ option_map f o
    → Some y ≡ option_map (λ (p : X × Y). p.1) (option_map {U = X × Y} (λ b. (f b, g b)) o) → option_map {U = X × Y} (λ b. (f b, g b)) o ≡ Some (x, y)
both f g None x y first second = absurd cc
both f g (Some b) x y first second = cc

-- the subcommand that was met, with its rows
pub met : (m : ArgMatches) (name : Text) (rows : List Row) → Some name ≡ subcommand_name_of m
    → Some rows ≡ option_map (λ p. p.1) (subcommand_rows_of m) → subcommand_rows_of m ≡ Some (name, rows)
met m name rows first second =
    both (λ b. (out-SubCommand (box_value b)).name.now) (λ b. rows_of (found_of (out-SubCommand (box_value b)).matches)) (out-ArgMatches m).subcommand name rows first second

-- where no subcommand was met, there are no rows of one
pub none-met : (m : ArgMatches) → None ≡ option_map (λ p. p.1) (subcommand_rows_of m) → subcommand_rows_of m ≡ None
none-met m rows = unmapped (subcommand_rows_of m) rows
  where
    unmapped : (o : Option (Text × List Row)) → None ≡ option_map (λ p. p.1) o → o ≡ None
    unmapped None none = refl
    unmapped (Some p) none = absurd cc

-- why clap refuses the arguments of the program
pub refused-by : (names : ValueParser) → TakesReports names → (app : App) → app ≡ command_line names → (texts : List Text) (error : Error)
    → HasKind (fault_of app texts) error → IsRefusal texts error
refused-by names reports app same texts error (inl memory) = no_memory memory
refused-by names reports app same texts error (inr kind) = by_rules names reports (subst (λ (a : App). IsAmong (kind_of error) (fault_of a texts)) same kind)

-- why the arguments of the program are refused that clap's rules let through
pub refused-in : (names : ValueParser) → TakesReports names → (texts : List Text) (error : Error)
    → (kind_of error ≡ OutOfMemory) ⊎ IsNoRequest (subcommand_of (command_line names) texts) (kind_of error) → IsRefusal texts error
refused-in names reports texts error (inl memory) = no_memory memory
refused-in names reports texts error (inr none) = no_request names reports none

-- a command with one more argument
with_arg : (old : Command) (arg : Arg) (new : Command) (shape : Shape) (rule : Rule) → IsLeaf shape old → IsArg rule arg → AddsArg old arg new
    → IsLeaf (record shape { rules = shape.rules ++ rule ∷ [] }) new
with_arg old arg new shape rule leaf is adds = (
  adds.shape is.1 ∙ ap₂ with_rule leaf.0 is.0,
  adds.globals ∙ ap₂ (λ a b. a || b) leaf.1 is.1,
)

-- a command with more arguments
pub with_args : (args : List Arg) (rules : List Rule) (old new : Command) (shape : Shape) → IsLeaf shape old → AllZip IsArg rules args
    → AddsInTurn AddsArg old args new → IsLeaf (record shape { rules = shape.rules ++ rules }) new
with_args [] [] old new shape leaf are adds =
    subst (λ rules. IsLeaf (record shape { rules = rules }) new) (sym (append-nil shape.rules)) (subst (IsLeaf shape) adds leaf)
with_args [] (rule ∷ rules) old new shape leaf are adds = absurd are
with_args (arg ∷ args) [] old new shape leaf are adds = absurd are
with_args (arg ∷ args) (rule ∷ rules) old new shape leaf are adds =
    subst (λ all. IsLeaf (record shape { rules = all }) new) (append_assoc shape.rules (rule ∷ []) rules)
    (with_args args rules adds.0 new (record shape { rules = shape.rules ++ rule ∷ [] }) (with_arg old arg adds.0 shape rule leaf are.0 adds.1) are.1 adds.2)

-- a program with more commands
abbrev with_subs : App → List Shape → App
with_subs app [] = app
with_subs app (shape ∷ shapes) = with_subs (with_subcommand app shape) shapes

pub adds_subs : (subs : List Command) (shapes : List Shape) (old new : Command) (app : App) → app_of old ≡ app → AllZip IsLeaf shapes subs
    → AddsInTurn AddsSubcommand old subs new → app_of new ≡ with_subs app shapes
adds_subs [] [] old new app so_far are adds = ap app_of (sym adds) ∙ so_far
adds_subs [] (shape ∷ shapes) old new app so_far are adds = absurd are
adds_subs (sub ∷ subs) [] old new app so_far are adds = absurd are
adds_subs (sub ∷ subs) (shape ∷ shapes) old new app so_far are adds =
    let next = adds.1.shape are.0.1 ∙ ap₂ with_subcommand so_far (ap (λ (a : App). a.top) are.0.0) in
    adds_subs subs shapes adds.0 new (with_subcommand app shape) next are.1 adds.2

-- ---- lists of which one more is as is said

pushed : {Y Z : Type 0} (R : Y → Z → Type 0) (ys : List Y) (zs : List Z) (y : Y) (z : Z) → AllZip R ys zs → R y z → AllZip R (ys ++ y ∷ []) (zs ++ z ∷ [])
pushed R [] [] y z are here = (here, tt)
pushed R [] (w ∷ zs) y z are here = absurd are
pushed R (w ∷ ys) [] y z are here = absurd are
pushed R (v ∷ ys) (w ∷ zs) y z are here = (are.0, pushed R ys zs y z are.1 here)

pub one_more : {X Y Z : Type 0} (f : X → Y) (R : Y → Z → Type 0) (xs : List X) (zs new : List Z) (i : ℕ) (d : X) (z : Z) → i < length xs
    → AllZip R (map f (take i xs)) zs → R (f (get_or xs i d)) z → new ≡ zs ++ z ∷ [] → AllZip R (map f (take (i + 1) xs)) new
one_more f R xs zs new i d z inside so_far here more = rw (map_more f xs i d inside, more) (pushed R (map f (take i xs)) zs (f (get_or xs i d)) z so_far here)

-- ---- workers

-- a command that is asked for has workers
pub has_workers : (found : Found) (name : Text) (command : Asked) → IsCommand found name command → HasWorkers command
has_workers found name asked.Joined is = absurd is
has_workers found name (asked.Run workers report drain) is = (is.2, is.3)
has_workers found name (asked.Explain cycle router) is = (lit< tt, lit≤ tt)
has_workers found name (asked.Trace from to router packet verdicts changes) is = (lit< tt, lit≤ tt)
has_workers found name asked.Check is = (lit< tt, lit≤ tt)
has_workers found name asked.Ranks is = (lit< tt, lit≤ tt)
