-- What is answered to a request: the text that is asked for and how it ended, or the first fault.
use Rattle.std.specs.Prelude.{◌≡◌, ℕ, ◌<◌, Bool, true, false, List, length, codes, is_some, Option, Some, None, Result, Ok, Err}
use Rattle.noc_route.specs.Routes.{Routes}
use Rattle.noc_net.specs.Limit.{are_all_out}
use Rattle.noc_theory.specs.Network.{Run, Setup, state_at}
use Rattle.noc_route.specs.Ranks.{Ranking}
use Rattle.noc_rank.specs.declared.fault.RankFault.{RankFault}
use Rattle.noc_files.specs.Configuration.{Settings}
use Rattle.noc_files.specs.Findings.{findings_text}
use Rattle.noc_bytes.specs.Joined.{line_at}
use Rattle.noc_files.specs.Ranks.{ranks_text}
use Rattle.noc_files.specs.Trace.{trace_text}
use Rattle.noc_files.specs.Writing.{Wrote}
use Rattle.noc_files.specs.declared.trace.Traced.{Traced}
use Rattle.noc_bytes.specs.declared.input_fault.InputFault.{InputFault}
use Rattle.noc_bytes.specs.declared.input_fault.InputFault.TheVariants as input
use Rattle.noc_requests.specs.Asked.{Asked, TextValue, ReadsAs, is_joined, owned_text}
use Rattle.noc_requests.specs.Ending.{Ends}
use Rattle.noc_commands.specs.Workers.{workers_of}
use Rattle.noc_requests.specs.Options.{first_cycle, packet_option_fault, trace_of}
use Rattle.noc_requests.specs.Settings.{AsksForRelation, SettingsFault}
use Rattle.noc_commands.specs.declared.command.Command.{Command}
use Rattle.noc_commands.specs.declared.command.Command.TheVariants as command
use Rattle.noc_commands.specs.declared.report.Report.{Report}
use Rattle.noc_requests.specs.declared.request.Request.{Request}
use Rattle.noc_faults.specs.declared.status.Status.{Status}
use Rattle.noc_faults.specs.declared.status.Status.TheVariants.{Done}
use Rattle.noc_faults.specs.declared.fault.Fault.{Fault}
use Rattle.noc_faults.specs.declared.fault.Fault.TheVariants as fault
use Rattle.noc_faults.specs.declared.fault.OptionFault.{OptionFault}
use Rattle.noc_requests.specs.Check.{AsksForChecked, RanksFault, checked_ranks}
use Rattle.noc_requests.specs.Formula.{HasRanks, IsFormulaFault}
use Rattle.noc_files.specs.Reports.{report_text}
use Rattle.noc_requests.specs.Run.{AsksForRun, IsNetworkOf, PacketsFault, ending, report_of}

-- ---- the texts of a request

-- the text that is asked for, where nothing is wrong, and how the request then ends
pub data AsksFor (a : Asked) : List ℕ → Status → Type 0 where
  a_report : {report : Report} {run : Run} → report_of a.command ≡ Some report → AsksForRun a run
      → AsksFor a (report_text report run) (ending run)
  findings : {cycle router : ℕ} {run : Run} → a.command ≡ command.Explain cycle router
      → AsksForRun a run → AsksFor a (findings_text run router) Done
  traces : {from to : Option ℕ} {traced : Traced} {run : Run} → a.command ≡ trace_of from to traced
      → AsksForRun a run → packet_option_fault a.command (length run.net.packets) ≡ None
      → AsksFor a (trace_text run (first_cycle from) traced) Done
  accepted : {s : Settings} {routes : Routes} → a.command ≡ command.Check
      → AsksForChecked a s routes → AsksFor a (codes "accepted\n") Done
  ranks : {s : Settings} {routes : Routes} {ranking : Ranking} → a.command ≡ command.Ranks
      → AsksForRelation a s routes → HasRanks s routes.grid ranking
      → AsksFor a (ranks_text ranking) Done

-- a command that runs a network
abbrev pub runs : Command → Bool
runs command.Check = false
runs command.Ranks = false
runs _ = true

-- the first fault: up to the relation, then the ranks, the traffic, the packets of the network,
-- and the packet to be traced
pub data TextsFault (a : Asked) : Fault → Type 0 where
  in_settings : {f : Fault} → SettingsFault a f → TextsFault a f
  in_formula : {s : Settings} {routes : Routes} {f : RankFault} → a.command ≡ command.Ranks
      → AsksForRelation a s routes → IsFormulaFault s routes.grid f
      → TextsFault a (fault.Rank f routes.grid)
  in_ranks : {s : Settings} {routes : Routes} {text : TextValue} {f : Fault}
      → AsksForRelation a s routes → checked_ranks a ≡ Some text → RanksFault routes text f
      → TextsFault a f
  in_packets : {s : Settings} {routes : Routes} {f : Fault} → runs a.command ≡ true
      → AsksForChecked a s routes → PacketsFault routes a.traffic f → TextsFault a f
  no_packet : {s : Settings} {routes : Routes} {net : Setup} {f : OptionFault}
      → AsksForChecked a s routes → IsNetworkOf routes s.buffer a.traffic net
      → packet_option_fault a.command (length net.packets) ≡ Some f → TextsFault a (fault.Option f)

-- what these texts ask for is written into a sink, or their first fault is
-- answered and nothing is written
abbrev pub IsAnswered : {S : Type 0} → (S → Option (List ℕ)) → (S → Bool) → S → S → Asked
    → Result Status Fault → Type 0
IsAnswered contents failed old new a result =
    Ends (workers_of a.command) (Wrote contents failed old new) (new ≡ old) (AsksFor a)
    (TextsFault a) result

-- ---- a request

-- of a joined text: that it was not read, that it has no dividing line; and then the
-- first fault of the texts
pub data FirstFault (r : Request) : Fault → Type 0 where
  unread : {f : InputFault} → is_joined r.command ≡ true → owned_text r.config ≡ Err f
      → FirstFault r (fault.Joined f)
  unsplit : {text : List ℕ} → is_joined r.command ≡ true → owned_text r.config ≡ Ok text
      → ((i : ℕ) → i < length text → line_at text i ≡ 0) → FirstFault r (fault.Joined input.NoSplit)
  in_texts : {a : Asked} {f : Fault} → ReadsAs r a → TextsFault a f → FirstFault r f

-- the text that a request asks for, and how it then ends
abbrev pub Asks : Request → List ℕ → Status → Type 0
Asks r text status = (a : Asked) × ReadsAs r a × AsksFor a text status

-- a request for a run, by so many workers
abbrev pub by_workers : Request → ℕ → Report → Bool → Request
by_workers r workers report drain = record r { command = command.Run workers report drain }

-- a request for a run that comes with ranks
abbrev pub IsRankedRun : Request → Type 0
IsRankedRun r =
    (workers : ℕ) × (report : Report) × (drain : Bool)
    × (r.command ≡ command.Run workers report drain) × (is_some r.ranks ≡ true)

-- a request for a run that comes with ranks and is to drain
abbrev pub IsRankedDrain : Request → Type 0
IsRankedDrain r =
    (workers : ℕ) × (report : Report) × (r.command ≡ command.Run workers report true)
    × (is_some r.ranks ≡ true)

-- the text that a request asks for is the report of a run in which every packet has arrived
abbrev pub AsksForArrivals : Request → List ℕ → Type 0
AsksForArrivals r text =
    (a : Asked) × (report : Report) × (run : Run) × ReadsAs r a
    × (report_of a.command ≡ Some report) × AsksForRun a run × (text ≡ report_text report run)
    × (are_all_out run.net (state_at run.net run.count) ≡ true)
