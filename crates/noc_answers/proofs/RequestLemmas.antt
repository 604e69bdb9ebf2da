-- What a command checks and runs, and which fault of its texts comes first.
use Rattle.std.proofs.Common.{◌≡◌, ℕ, Bool, true, Some, refl, sym, subst, ◌∙◌}
use Rattle.std.proofs.lemmas.Bool.{false≢true}
use Rattle.noc_files.specs.Configuration.{Settings}
use Rattle.noc_theory.specs.Network.{Run, Setup}
use Rattle.noc_requests.specs.Asked.{Asked, ReadsAs, as_files, as_joined, is_joined}
use Rattle.noc_commands.specs.declared.command.Command.{Command}
use Rattle.noc_commands.specs.declared.command.Command.TheVariants as command
use Rattle.noc_commands.specs.declared.report.Report.{Report}
use Rattle.noc_requests.specs.declared.request.Request.{Request}
use Rattle.noc_requests.specs.Answer.{runs}
use Rattle.noc_requests.specs.Drain.{RunsTo}
use Rattle.noc_requests.specs.Run.{AsksForRun, Opens, cycles_asked, runs_until_out, report_of}
use Rattle.noc_commands.specs.Workers.{workers_of}
use Rattle.noc_answers.proofs.DrainLemmas.{ends-some}

-- a command with a report runs
pub runs-report : (x : Command) (report : Report) → report_of x ≡ Some report → runs x ≡ true
runs-report command.Joined report h = refl
runs-report (command.Run workers other drain) report h = refl
runs-report (command.Explain cycle router) report h = refl
runs-report (command.Trace from to router packet verdicts changes) report h = refl
runs-report command.Check report h = cc
runs-report command.Ranks report h = cc

-- a command that asks for a report runs for the cycles of the configuration
cycles-report : (x : Command) (report : Report) (s : Settings) → report_of x ≡ Some report → s.cycles ≡ cycles_asked x s
cycles-report command.Joined report s h = refl
cycles-report (command.Run workers other drain) report s h = refl
cycles-report (command.Explain cycle router) report s h = cc
cycles-report (command.Trace from to router packet verdicts changes) report s h = cc
cycles-report command.Check report s h = cc
cycles-report command.Ranks report s h = cc

-- the network that is asked for has run to its end
pub ran : (a : Asked) (before after : Run) (opens : Opens a before.net) → after.net ≡ before.net
    → RunsTo (runs_until_out a.command) before.net (cycles_asked a.command opens.settings) after.count → AsksForRun a after
ran a before after opens same ends =
    let Q : Setup → Type 0 = λ net. AsksForRun a (record { net = net; count = after.count }) in
    subst Q (sym same) (record { opens = opens; cycles = ends })

-- and that of a command that asks for a report has run for the cycles of the configuration
pub ran-report : (a : Asked) (report : Report) (drain : Bool) (before after : Run) (opens : Opens a before.net) (n : ℕ) → report_of a.command ≡ Some report
    → runs_until_out a.command ≡ drain → n ≡ opens.settings.cycles → after.net ≡ before.net → RunsTo drain after.net n after.count → AsksForRun a after
ran-report a report drain before after opens n reports drains is same ends =
    let P : Bool → Setup → ℕ → Type 0 = λ b net k. RunsTo b net k after.count in
    let from = subst (λ net. P drain net n) same ends in
    let cycles = subst (λ k. P drain before.net k) (is ∙ cycles-report a.command report opens.settings reports) from in
    ran a before after opens same (subst (λ b. P b before.net (cycles_asked a.command opens.settings)) (sym drains) cycles)

-- a command that asks for a report asks for some run
pub some-run : (a : Asked) (report : Report) (drain : Bool) (before : Run) (opens : Opens a before.net) → report_of a.command ≡ Some report → runs_until_out a.command ≡ drain
    → (run : Run) × AsksForRun a run
some-run a report drain before opens reports drains =
    let end = ends-some before.net drain opens.settings.cycles in
    let run : Run = record { net = before.net; count = end.0 } in
    (run, ran-report a report drain before run opens opens.settings.cycles reports drains refl refl end.1)

-- a request has the workers of the texts as which it is read
one-worker : (x : Command) → is_joined x ≡ true → 1 ≡ workers_of x
one-worker command.Joined h = refl
one-worker (command.Run workers report drain) h = absurd (false≢true h)
one-worker (command.Explain cycle router) h = refl
one-worker (command.Trace from to router packet verdicts changes) h = refl
one-worker command.Check h = refl
one-worker command.Ranks h = refl

pub same-workers : (r : Request) (a : Asked) → ReadsAs r a → workers_of a.command ≡ workers_of r.command
same-workers r a (as_files h) = refl
same-workers r a (as_joined h e s) = one-worker r.command h
