-- A run whose ranks were accepted is never stuck, and where it is to drain
-- every packet has arrived. So is what is answered to a request.
use Rattle.std.proofs.Common.{◌≡◌, ℕ, Bool, true, false, cond, List, Option, Some, None, Ok, Result, is_some, option_map, refl, ap, sym, ◌∙◌, subst}
use Rattle.std.specs.Option.{IfSome}
use Rattle.std.specs.Result.{IfOk}
use Rattle.noc_route.specs.Routes.{Routes}
use Rattle.noc_route.specs.Ranks.{IsRankedBy}
use Rattle.noc_net.specs.Limit.{are_all_out}
use Rattle.noc_theory.specs.Network.{Run, state_at}
use Rattle.noc_theory.proofs.worms.BuiltLemmas.{well-formed}
use Rattle.noc_theory.proofs.budget.ProgressTheoremLemmas.{not-stuck}
use Rattle.noc_files.specs.Writing.{Wrote}
use Rattle.noc_bytes.specs.declared.writing.WriteFault.{WriteFault}
use Rattle.noc_requests.specs.Asked.{Asked, TextValue, ReadsAs, as_files, as_joined, is_joined, owned_text}
use Rattle.noc_requests.specs.Ending.{Ends, at_fault, cut_off, in_full, unstarted}
use Rattle.noc_commands.specs.Workers.{workers_of}
use Rattle.noc_commands.specs.declared.command.Command.{Command}
use Rattle.noc_commands.specs.declared.command.Command.TheVariants as command
use Rattle.noc_commands.specs.declared.report.Report.{Report}
use Rattle.noc_requests.specs.declared.request.Request.{Request}
use Rattle.noc_faults.specs.declared.status.Status.{Status}
use Rattle.noc_faults.specs.declared.status.Status.TheVariants.{Done, Stuck}
use Rattle.noc_faults.specs.declared.fault.Fault.{Fault}
use Rattle.noc_requests.specs.Answer.{Asks, AsksFor, AsksForArrivals, FirstFault, IsAnswered, IsRankedDrain, IsRankedRun, TextsFault, in_texts, a_report, findings, traces, accepted, ranks}
use Rattle.noc_requests.specs.Check.{Accepts, checked_by, checked_ranks}
use Rattle.noc_requests.specs.Drain.{RunsTo}
use Rattle.noc_requests.specs.Options.{trace_of}
use Rattle.noc_requests.specs.Run.{AsksForRun, cycles_asked, ending, runs_until_out}
use Rattle.noc_requests.proofs.EndingLemmas.{ends_more}
use Rattle.noc_answers.specs.Answered.{IsRequestAnswered}
use Rattle.noc_answers.proofs.DrainLemmas.{drained-out}
use Rattle.noc_answers.proofs.RequestLemmas.{same-workers}

-- a run whose ranks are checked ends done
run-done : (a : Asked) (run : Run) (text : TextValue) → checked_ranks a ≡ Some text → AsksForRun a run → ending run ≡ Done
run-done a run text checked asks =
    let accepts : Accepts asks.opens.routes text = subst (λ (o : Option TextValue). IfSome o (Accepts asks.opens.routes)) checked asks.opens.before.accepted in
    let rising : IsRankedBy run.net.relation accepts.ranking = subst (λ (routes : Routes). IsRankedBy routes accepts.ranking) (sym asks.opens.network.relation) accepts.rising in
    ap (λ b. cond b Stuck Done) (not-stuck run.net (well-formed run.net asks.opens.network.good) accepts.ranking rising run.count)

asked-done : (a : Asked) (out : List ℕ) (status : Status) (text : TextValue) → checked_ranks a ≡ Some text → AsksFor a out status → status ≡ Done
asked-done a out status text checked (a_report {run = run} is asks) = run-done a run text checked asks
asked-done a out status text checked (findings is asks) = refl
asked-done a out status text checked (traces is asks there) = refl
asked-done a out status text checked (accepted is asks) = refl
asked-done a out status text checked (ranks is asks has) = refl

some-owned : (o : Option TextValue) → is_some o ≡ true → (text : TextValue) × (o ≡ Some text)
some-owned None e = absurd (cc e)
some-owned (Some text) e = (text, refl)

given : {X Y : Type 0} (f : X → Y) (o : Option X) → is_some o ≡ true → is_some (option_map f o) ≡ true
given f None e = absurd (cc e)
given f (Some x) e = refl

-- a request for a ranked run that is answered by a text ends done
pub asks-done : (r : Request) (out : List ℕ) (status : Status) → IsRankedRun r → Asks r out status → status ≡ Done
asks-done r out status ranked (a, as_files files, asks) =
    let text = some-owned (option_map owned_text r.ranks) (given owned_text r.ranks ranked.4) in
    let checked : checked_ranks a ≡ Some text.0 = ap (λ (x : Command). checked_by x (option_map owned_text r.ranks)) ranked.3 ∙ text.1 in
    asked-done a out status text.0 checked asks
asks-done r out status ranked (a, as_joined joined text splits, asks) = (let never : true ≡ false = sym joined ∙ ap is_joined ranked.3 in absurd (cc never))

ends-done : (workers : ℕ) (r : Request) (Wrote : List ℕ → Result (Unit {0}) WriteFault → Type 0) (IsUnwritten : Type 0) (IsFirst : Fault → Type 0) (result : Result Status Fault)
    → Ends workers Wrote IsUnwritten (Asks r) IsFirst result → IsRankedRun r → IfOk result (λ status. status ≡ Done)
ends-done workers r Wrote IsUnwritten IsFirst result (in_full {text = text} {status = status} asks wrote) ranked = asks-done r text status ranked asks
ends-done workers r Wrote IsUnwritten IsFirst result (cut_off asks wrote) ranked = tt
ends-done workers r Wrote IsUnwritten IsFirst result (unstarted none many lost asks) ranked = tt
ends-done workers r Wrote IsUnwritten IsFirst result (at_fault none refuses) ranked = tt

-- a request for a ranked run that is to drain ends with every packet arrived
run-drained : (a : Asked) (run : Run) (text : TextValue) → checked_ranks a ≡ Some text → runs_until_out a.command ≡ true → AsksForRun a run → are_all_out run.net (state_at run.net run.count) ≡ true
run-drained a run text checked drains asks =
    let accepts : Accepts asks.opens.routes text = subst (λ (o : Option TextValue). IfSome o (Accepts asks.opens.routes)) checked asks.opens.before.accepted in
    let rising : IsRankedBy run.net.relation accepts.ranking = subst (λ (routes : Routes). IsRankedBy routes accepts.ranking) (sym asks.opens.network.relation) accepts.rising in
    let n = cycles_asked a.command asks.opens.settings in
    drained-out run.net asks.opens.network.good accepts.ranking rising n run.count (subst (λ b. RunsTo b run.net n run.count) drains asks.cycles)

-- a text that is asked for where a run is to drain is a report of one in which
-- every packet has arrived
asked-drained : (r : Request) (a : Asked) (out : List ℕ) (status : Status) (workers : ℕ) (report : Report) (text : TextValue) → a.command ≡ command.Run workers report true → ReadsAs r a
    → checked_ranks a ≡ Some text → AsksFor a out status → AsksForArrivals r out
asked-drained r a out status workers report text is reads checked (a_report {report = of} {run = run} has asks) =
    (a, of, run, reads, has, asks, refl, run-drained a run text checked (ap runs_until_out is) asks)
asked-drained r a out status workers report text is reads checked (findings {cycle = c} {router = n} e asks) =
    (let never : command.Explain c n ≡ command.Run workers report true = sym e ∙ is in absurd (cc never))
asked-drained r a out status workers report text is reads checked (traces {from = b} {to = c} {traced = t} e asks there) =
    (let never : trace_of b c t ≡ command.Run workers report true = sym e ∙ is in absurd (cc never))
asked-drained r a out status workers report text is reads checked (accepted e asks) =
    (let never : command.Check ≡ command.Run workers report true = sym e ∙ is in absurd (cc never))
asked-drained r a out status workers report text is reads checked (ranks e asks has) =
    (let never : command.Ranks ≡ command.Run workers report true = sym e ∙ is in absurd (cc never))

asks-drained : (r : Request) (out : List ℕ) (status : Status) → IsRankedDrain r → Asks r out status → AsksForArrivals r out
asks-drained r out status ranked (a, as_files files, asks) =
    let text = some-owned (option_map owned_text r.ranks) (given owned_text r.ranks ranked.3) in
    let checked : checked_ranks a ≡ Some text.0 = ap (λ (x : Command). checked_by x (option_map owned_text r.ranks)) ranked.2 ∙ text.1 in
    asked-drained r a out status ranked.0 ranked.1 text.0 ranked.2 (as_files files) checked asks
asks-drained r out status ranked (a, as_joined joined text splits, asks) = (let never : true ≡ false = sym joined ∙ ap is_joined ranked.2 in absurd (cc never))

ends-drained : (workers : ℕ) (r : Request) (Wrote : List ℕ → Result (Unit {0}) WriteFault → Type 0) (IsUnwritten : Type 0) (IsFirst : Fault → Type 0) (result : Result Status Fault)
    → Ends workers Wrote IsUnwritten (Asks r) IsFirst result → IsRankedDrain r → IfOk result (λ _. (text : List ℕ) × AsksForArrivals r text × Wrote text (Ok tt))
ends-drained workers r Wrote IsUnwritten IsFirst result (in_full {text = text} {status = status} asks wrote) ranked = (text, asks-drained r text status ranked asks, wrote)
ends-drained workers r Wrote IsUnwritten IsFirst result (cut_off asks wrote) ranked = tt
ends-drained workers r Wrote IsUnwritten IsFirst result (unstarted none many lost asks) ranked = tt
ends-drained workers r Wrote IsUnwritten IsFirst result (at_fault none refuses) ranked = tt

-- ---- what is answered to a request
module _ {S : Type 0} (contents : S → Option (List ℕ)) (failed : S → Bool) (old new : S) (r : Request) (result : Result Status Fault) where
  pub request-answered : Ends (workers_of r.command) (Wrote contents failed old new) (new ≡ old) (Asks r) (FirstFault r) result → IsRequestAnswered contents failed old new r result
  request-answered ends = record {
    ends = ends;
    ranked = λ ranked. ends-done (workers_of r.command) r (Wrote contents failed old new) (new ≡ old) (FirstFault r) result ends ranked;
    drained = λ ranked. ends-drained (workers_of r.command) r (Wrote contents failed old new) (new ≡ old) (FirstFault r) result ends ranked;
  }

  -- what is answered to its texts
  pub texts-answered : (a : Asked) → ReadsAs r a → IsAnswered contents failed old new a result → IsRequestAnswered contents failed old new r result
  texts-answered a reads answered =
      let E : ℕ → Type 0 = λ workers. Ends workers (Wrote contents failed old new) (new ≡ old) (AsksFor a) (TextsFault a) result in
      request-answered (ends_more (workers_of r.command) (Wrote contents failed old new) (new ≡ old) (AsksFor a) (TextsFault a) (Asks r) (FirstFault r) result
      (λ text status asks. (a, reads, asks)) (λ f first. in_texts reads first) (subst E (same-workers r a reads) answered))
