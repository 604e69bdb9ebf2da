-- Workers change no report.
use Rattle.std.proofs.Common.{◌≡◌, ◌<◌, ◌≤◌, ℕ, Bool, true, false, List, Some, None, refl, sym, ◌∙◌, arith, inl, inr}
use Rattle.std.specs.Prelude.{◌⊎◌, nat_lt, if◌then◌else◌}
use Rattle.std.proofs.lemmas.Bool.{cases_lt, false≢true, lt-ltb, ltb-true}
use Rattle.noc_topo.specs.Shape.{Grid, nodes}
use Rattle.noc_route.specs.Routes.{Routes}
use Rattle.noc_files.specs.Configuration.{Settings}
use Rattle.noc_requests.specs.Asked.{as_files, as_joined, files_of}
use Rattle.noc_requests.specs.Options.{late_fault, trace_of}
use Rattle.noc_requests.specs.Settings.{AsksForRelation}
use Rattle.noc_faults.specs.declared.fault.OptionFault.TheVariants.{BadWorkers}
use Rattle.noc_commands.specs.declared.command.Command.TheVariants as command
use Rattle.noc_commands.specs.declared.report.Report.{Report}
use Rattle.noc_requests.specs.declared.request.Request.{Request}
use Rattle.noc_faults.specs.declared.status.Status.{Status}
use Rattle.noc_requests.specs.Answer.{Asks, AsksFor, a_report, accepted, by_workers, findings, ranks, traces}
use Rattle.noc_answers.proofs.OneAnswerLemmas.{one_answer}

module _ (r : Request) (report : Report) (drain : Bool) (many few : ℕ) (less : few ≤ many) where
  -- where so many workers are not too many for a shape, fewer are not
  late : (g : Grid) → late_fault (command.Run many report drain) g ≡ None → late_fault (command.Run few report drain) g ≡ None
  late g h = at (nat_lt (nodes g) few) refl (nat_lt (nodes g) many) refl h
    where
      at : (b : Bool) → nat_lt (nodes g) few ≡ b → (c : Bool) → nat_lt (nodes g) many ≡ c → (if c then Some BadWorkers else None) ≡ None → (if b then Some BadWorkers else None) ≡ None
      at false e c f k = refl
      at true e true f k = k
      at true e false f k = (let l = ltb-true _ _ e in absurd (false≢true (sym f ∙ lt-ltb (nodes g) many (omega arith))))

  relation : (s : Settings) (routes : Routes) → AsksForRelation (files_of (by_workers r many report drain)) s routes → AsksForRelation (files_of (by_workers r few report drain)) s routes
  relation s routes h = record {
    grid = h.grid;
    shape = record {
      settings = record { configuration = h.shape.settings.configuration; options = h.shape.settings.options };
      shaped = h.shape.shaped;
      options = late h.grid h.shape.options;
    };
    routing = h.routing;
    rule = h.rule;
    relation = h.relation;
  }

  asked : (text : List ℕ) (status : Status) → AsksFor (files_of (by_workers r many report drain)) text status → AsksFor (files_of (by_workers r few report drain)) text status
  asked text status (a_report {run = run} e x) =
      a_report e (record {
        opens = record {
          settings = x.opens.settings;
          routes = x.opens.routes;
          before = record { relation = relation x.opens.settings x.opens.routes x.opens.before.relation; accepted = x.opens.before.accepted };
          network = x.opens.network;
        };
        cycles = x.cycles;
      })
  asked text status (findings {cycle = cycle} {router = router} e x) = (let never : command.Run many report drain ≡ command.Explain cycle router = e in absurd (cc never))
  asked text status (traces {from = from} {to = to} {traced = traced} e x none) = (let never : command.Run many report drain ≡ trace_of from to traced = e in absurd (cc never))
  asked text status (accepted e x) = (let never : command.Run many report drain ≡ command.Check = e in absurd (cc never))
  asked text status (ranks e x h) = (let never : command.Run many report drain ≡ command.Ranks = e in absurd (cc never))

  pub fewer : (text : List ℕ) (status : Status) → Asks (by_workers r many report drain) text status → Asks (by_workers r few report drain) text status
  fewer text status (a, as_files h, asks) = (files_of (by_workers r few report drain), as_files refl, asked text status asks)
  fewer text status (a, as_joined joined e splits, asks) = absurd (false≢true joined)

pub same-report : (r : Request) (report : Report) (drain : Bool) (workers other : ℕ) (text said : List ℕ) (status end : Status) → Asks (by_workers r workers report drain) text status
    → Asks (by_workers r other report drain) said end → (text ≡ said) × (status ≡ end)
same-report r report drain workers other text said status end x y = by (cases_lt workers other)
  where
    by : (workers < other) ⊎ (other ≤ workers) → (text ≡ said) × (status ≡ end)
    by (inl l) = one_answer (by_workers r workers report drain) text said status end x (fewer r report drain other workers (omega arith) said end y)
    by (inr l) = one_answer (by_workers r other report drain) text said status end (fewer r report drain workers other l text status x) y
