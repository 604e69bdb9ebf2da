-- A request asks for one text, or has one first fault.
use Rattle.std.proofs.Common.{◌≡◌, ℕ, List, Option, Some, None, Ok, refl, sym, subst, ap, ◌∙◌, arith, inl, inr}
use Rattle.std.proofs.lemmas.Bool.{cases_order, false≢true}
use Rattle.noc_topo.specs.Shape.{Grid}
use Rattle.noc_route.specs.Routes.{Routes}
use Rattle.noc_theory.specs.Network.{Run, Setup}
use Rattle.noc_rank.specs.Formulas.{IsGenerated}
use Rattle.noc_route.specs.Ranks.{Ranking}
use Rattle.noc_files.specs.Configuration.{Settings}
use Rattle.noc_files.specs.Findings.{findings_text}
use Rattle.noc_bytes.specs.Joined.{SplitsAt, line_at}
use Rattle.noc_files.specs.Ranks.{ranks_text}
use Rattle.noc_files.specs.Trace.{trace_text}
use Rattle.noc_files.specs.declared.trace.Traced.{Traced}
use Rattle.noc_requests.specs.Asked.{Asked, ReadsAs, as_files, as_joined, parts}
use Rattle.noc_requests.specs.Options.{first_cycle, packet_option_fault, trace_of}
use Rattle.noc_faults.specs.declared.fault.OptionFault.{OptionFault}
use Rattle.noc_commands.specs.declared.command.Command.{Command}
use Rattle.noc_commands.specs.declared.command.Command.TheVariants as command
use Rattle.noc_commands.specs.declared.report.Report.{Report}
use Rattle.noc_requests.specs.declared.request.Request.{Request}
use Rattle.noc_faults.specs.declared.status.Status.{Status}
use Rattle.noc_requests.specs.Answer.{Asks, AsksFor, a_report, findings, traces, accepted, ranks}
use Rattle.noc_requests.specs.Drain.{RunsTo}
use Rattle.noc_requests.specs.Formula.{HasRanks}
use Rattle.noc_files.specs.Reports.{report_text}
use Rattle.noc_requests.specs.Run.{AsksForRun, IsNetworkOf, cycles_asked, ending, runs_until_out, report_of}
use Rattle.noc_answers.proofs.OneSettingsLemmas.{one_relation_asked}
use Rattle.noc_answers.proofs.DrainLemmas.{ends-once}
use Rattle.noc_answers.proofs.OneRankingLemmas.{one-generated}

-- ---- commands

-- what a command asks for, by number: a report, an explanation, a check, ranks, a trace
abbrev pub kind : Command → ℕ
kind command.Joined = 0
kind (command.Run workers report drain) = 0
kind (command.Explain cycle router) = 1
kind (command.Trace from to router packet verdicts changes) = 4
kind command.Check = 2
kind command.Ranks = 3

pub reports : (x : Command) (report : Report) → report_of x ≡ Some report → kind x ≡ 0
reports command.Joined report h = refl
reports (command.Run workers other drain) report h = refl
reports (command.Explain cycle router) report h = cc
reports (command.Trace from to router packet verdicts changes) report h = cc
reports command.Check report h = cc
reports command.Ranks report h = cc

pub explains : (x : Command) (cycle router : ℕ) → x ≡ command.Explain cycle router → kind x ≡ 1
explains x cycle router e = ap kind e

pub checks : (x : Command) → x ≡ command.Check → kind x ≡ 2
checks x e = ap kind e

pub ranked : (x : Command) → x ≡ command.Ranks → kind x ≡ 3
ranked x e = ap kind e

pub is_trace : (x : Command) (from to : Option ℕ) (traced : Traced) → x ≡ trace_of from to traced → kind x ≡ 4
is_trace x from to traced e = ap kind e

-- only a trace has a packet that can be missing
pub has_packet : (x : Command) (packets : ℕ) (f : OptionFault) → packet_option_fault x packets ≡ Some f → kind x ≡ 4
has_packet command.Joined packets f h = cc
has_packet (command.Run workers report drain) packets f h = cc
has_packet (command.Explain cycle router) packets f h = cc
has_packet (command.Trace from to router packet verdicts changes) packets f h = refl
has_packet command.Check packets f h = cc
has_packet command.Ranks packets f h = cc

pub has_no_packet : (x : Command) (packets : ℕ) → (kind x ≡ 4 → ⊥) → packet_option_fault x packets ≡ None
has_no_packet command.Joined packets other = refl
has_no_packet (command.Run workers report drain) packets other = refl
has_no_packet (command.Explain cycle router) packets other = refl
has_no_packet (command.Trace from to router packet verdicts changes) packets other = absurd (other refl)
has_no_packet command.Check packets other = refl
has_no_packet command.Ranks packets other = refl

-- ---- what is asked for

module _ (a : Asked) where
  same_net : (x y : Routes) (s t : Settings) (m n : Setup) → x ≡ y → s ≡ t → IsNetworkOf x s.buffer a.traffic m → IsNetworkOf y t.buffer a.traffic n → m ≡ n
  same_net x y s t m n routes settings h u =
      let relation : m.relation ≡ n.relation = h.relation ∙ routes ∙ sym u.relation in
      let depth : m.depth ≡ n.depth = h.depth_is ∙ ap (λ (z : Settings). z.buffer) settings ∙ sym u.depth_is in
      let both : Ok m.packets ≡ Ok n.packets = sym h.packets ∙ u.packets in
      let packets : m.packets ≡ n.packets = cc in
      λ i. record { relation = relation i; depth = depth i; packets = packets i }

  one_run : (u v : Run) → AsksForRun a u → AsksForRun a v → u ≡ v
  one_run u v x y =
      let m = x.opens in
      let n = y.opens in
      let same = one_relation_asked a m.settings n.settings m.routes n.routes m.before.relation n.before.relation in
      let net = same_net m.routes n.routes m.settings n.settings u.net v.net same.1 same.0 m.network n.network in
      let P : Setup → Settings → Type 0 = λ z s. RunsTo (runs_until_out a.command) z (cycles_asked a.command s) v.count in
      let other : P u.net m.settings = subst (λ s. P u.net s) (sym same.0) (subst (λ z. P z n.settings) (sym net) y.cycles) in
      let count : u.count ≡ v.count = ends-once u.net (runs_until_out a.command) (cycles_asked a.command m.settings) u.count v.count x.cycles other in
      λ i. record { net = net i; count = count i }

  one_formula : (s t : Settings) (g h : Grid) (k j : Ranking) → s ≡ t → g ≡ h → HasRanks s g k → HasRanks t h j → k ≡ j
  one_formula s t g h k j settings grid x y =
      let P : Settings → Type 0 = λ z. HasRanks z h j in
      let Q : Grid → Type 0 = λ z. HasRanks s z j in
      same (subst Q (sym grid) (subst P (sym settings) y))
    where
      same : HasRanks s g j → k ≡ j
      same moved =
          let rules : Some x.routing ≡ Some moved.routing = sym x.named ∙ moved.named in
          let rule : x.routing ≡ moved.routing = cc in
          one-generated g s.channels s.classes moved.routing k j (subst (λ r. IsGenerated g s.channels s.classes r k) rule x.generated) moved.generated

  -- two texts are equal, and so are their statuses
  abbrev Same : List ℕ → List ℕ → Status → Status → Type 0
  Same text other status end = (text ≡ other) × (status ≡ end)

  one_text : (text other : List ℕ) (status end : Status) → AsksFor a text status → AsksFor a other end → Same text other status end
  one_text text other status end (a_report {report = m} {run = u} e x) (a_report {report = n} {run = v} d y) =
      let both : Some m ≡ Some n = sym e ∙ d in
      let report : m ≡ n = cc in
      let run = one_run u v x y in
      (ap (λ z. report_text z u) report ∙ ap (report_text n) run, ap ending run)
  one_text text other status end (findings {cycle = c} {router = m} {run = u} e x) (findings {cycle = d} {router = n} {run = v} f y) =
      let both : command.Explain c m ≡ command.Explain d n = sym e ∙ f in
      let router : m ≡ n = cc in
      (ap (findings_text u) router ∙ ap (λ z. findings_text z n) (one_run u v x y), refl)
  one_text text other status end (traces {from = m} {to = b} {traced = t} {run = u} e x p) (traces {from = n} {to = d} {traced = w} {run = v} f y q) =
      let both : trace_of m b t ≡ trace_of n d w = sym e ∙ f in
      let from : m ≡ n = cc in
      let router : t.router ≡ w.router = cc in
      let packet : t.packet ≡ w.packet = cc in
      let verdicts : t.verdicts ≡ w.verdicts = cc in
      let changes : t.changes ≡ w.changes = cc in
      let traced : t ≡ w = λ i. record { router = router i; packet = packet i; verdicts = verdicts i; changes = changes i } in
      (ap (λ z. trace_text u (first_cycle z) t) from ∙ ap (trace_text u (first_cycle n)) traced ∙ ap (λ z. trace_text z (first_cycle n) w) (one_run u v x y), refl)
  one_text text other status end (accepted e x) (accepted d y) = (refl, refl)
  one_text text other status end (ranks {s = s} {routes = m} {ranking = k} e x h) (ranks {s = t} {routes = n} {ranking = j} d y u) =
      let same = one_relation_asked a s t m n x y in
      (ap ranks_text (one_formula s t m.grid n.grid k j same.0 (ap (λ (z : Routes). z.grid) same.1) h u), refl)
  one_text text other status end (a_report {report = m} e x) (traces {from = b} {to = c} {traced = t} d y q) = absurd (omega (arith, reports a.command m e, is_trace a.command b c t d))
  one_text text other status end (findings {cycle = h} {router = n} e x) (traces {from = b} {to = c} {traced = t} d y q) = absurd (omega (arith, explains a.command h n e, is_trace a.command b c t d))
  one_text text other status end (accepted e x) (traces {from = b} {to = c} {traced = t} d y q) = absurd (omega (arith, checks a.command e, is_trace a.command b c t d))
  one_text text other status end (ranks e x h) (traces {from = b} {to = c} {traced = t} d y q) = absurd (omega (arith, ranked a.command e, is_trace a.command b c t d))
  one_text text other status end (traces {from = b} {to = c} {traced = t} d y q) (a_report {report = m} e x) = absurd (omega (arith, reports a.command m e, is_trace a.command b c t d))
  one_text text other status end (traces {from = b} {to = c} {traced = t} d y q) (findings {cycle = h} {router = n} e x) = absurd (omega (arith, explains a.command h n e, is_trace a.command b c t d))
  one_text text other status end (traces {from = b} {to = c} {traced = t} d y q) (accepted e x) = absurd (omega (arith, checks a.command e, is_trace a.command b c t d))
  one_text text other status end (traces {from = b} {to = c} {traced = t} d y q) (ranks e x h) = absurd (omega (arith, ranked a.command e, is_trace a.command b c t d))
  one_text text other status end (a_report {report = m} e x) (findings {cycle = c} {router = n} d y) = absurd (omega (arith, reports a.command m e, explains a.command c n d))
  one_text text other status end (a_report {report = m} e x) (accepted d y) = absurd (omega (arith, reports a.command m e, checks a.command d))
  one_text text other status end (a_report {report = m} e x) (ranks d y h) = absurd (omega (arith, reports a.command m e, ranked a.command d))
  one_text text other status end (findings {cycle = c} {router = n} d y) (a_report {report = m} e x) = absurd (omega (arith, reports a.command m e, explains a.command c n d))
  one_text text other status end (findings {cycle = c} {router = n} d y) (accepted e x) = absurd (omega (arith, checks a.command e, explains a.command c n d))
  one_text text other status end (findings {cycle = c} {router = n} d y) (ranks e x h) = absurd (omega (arith, ranked a.command e, explains a.command c n d))
  one_text text other status end (accepted d y) (a_report {report = m} e x) = absurd (omega (arith, reports a.command m e, checks a.command d))
  one_text text other status end (accepted d y) (findings {cycle = c} {router = n} e x) = absurd (omega (arith, checks a.command d, explains a.command c n e))
  one_text text other status end (accepted d y) (ranks e x h) = absurd (omega (arith, checks a.command d, ranked a.command e))
  one_text text other status end (ranks d y h) (a_report {report = m} e x) = absurd (omega (arith, reports a.command m e, ranked a.command d))
  one_text text other status end (ranks d y h) (findings {cycle = c} {router = n} e x) = absurd (omega (arith, ranked a.command d, explains a.command c n e))
  one_text text other status end (ranks d y h) (accepted e x) = absurd (omega (arith, ranked a.command d, checks a.command e))

-- ---- the split of a joined text

-- the places of two splits are the same
one_place : (text a b c d : List ℕ) (i j : ℕ) → SplitsAt text i a b → SplitsAt text j c d → i ≡ j
one_place text a b c d i j s t =
    elim (cases_order i j) [
      | inl same ↦ same
      | inr (inl less) ↦ (let none : line_at text i ≡ 0 = t.first i less in absurd (omega (arith, none, s.line)))
      | inr (inr more) ↦ (let none : line_at text j ≡ 0 = s.first j more in absurd (omega (arith, none, t.line)))
    ]

one_parts : (text a b c d : List ℕ) (i j : ℕ) → SplitsAt text i a b → SplitsAt text j c d → parts a b ≡ parts c d
one_parts text a b c d i j s t =
    let same = one_place text a b c d i j s t in
    let front : a ≡ c = rw (s.front_is, t.front_is, same) refl in
    let rest : b ≡ d = rw (s.rest_is, t.rest_is, same) refl in
    ap (λ z. parts z b) front ∙ ap (parts c) rest

-- a request is read as one pair of texts
pub one_reading : (r : Request) (a b : Asked) → ReadsAs r a → ReadsAs r b → a ≡ b
one_reading r a b (as_files e) (as_files d) = refl
one_reading r a b (as_files e) (as_joined d x s) = absurd (false≢true (sym e ∙ d))
one_reading r a b (as_joined d x s) (as_files e) = absurd (false≢true (sym e ∙ d))
one_reading r a b (as_joined {text = t} {config = c} {traffic = p} {i = i} d x s) (as_joined {text = u} {config = k} {traffic = q} {i = j} e y z) =
    let both : Ok t ≡ Ok u = sym x ∙ y in
    let text : t ≡ u = cc in
    let P : List ℕ → Type 0 = λ w. SplitsAt w j k q in
    one_parts t c p k q i j s (subst P (sym text) z)

pub one_answer : (r : Request) (text other : List ℕ) (status end : Status) → Asks r text status → Asks r other end → (text ≡ other) × (status ≡ end)
one_answer r text other status end x y =
    let P : Asked → Type 0 = λ z. AsksFor z other end in
    one_text x.0 text other status end x.2 (subst P (sym (one_reading r x.0 y.0 x.1 y.1)) y.2)
