-- The run that is asked for.
use Rattle.std.specs.Prelude.{◌≡◌, ◌⊎◌, ℕ, ◌+◌, Bool, false, List, Option, Some, None, Ok, if◌then◌else◌}
use Rattle.noc_packet.specs.declared.packet.Packet.{Packet}
use Rattle.noc_route.specs.Routes.{Routes}
use Rattle.noc_net.specs.declared.net_fault.NetFault.{NetFault}
use Rattle.noc_net.specs.declared.net_fault.NetFault.TheVariants as net
use Rattle.noc_net.specs.Faults.{fault_of}
use Rattle.noc_theory.specs.Good.{IsGoodSetup}
use Rattle.noc_theory.specs.Network.{Run, Setup}
use Rattle.noc_theory.specs.Progress.{is_stuck}
use Rattle.noc_files.specs.Configuration.{Settings}
use Rattle.noc_files.specs.Traffic.{traffic_of}
use Rattle.noc_bytes.specs.declared.input_fault.InputFault.{InputFault}
use Rattle.noc_requests.specs.Asked.{Asked, IsUnread, TextValue, read_by}
use Rattle.noc_requests.specs.Options.{last_cycle}
use Rattle.noc_commands.specs.declared.command.Command.{Command}
use Rattle.noc_commands.specs.declared.command.Command.TheVariants as command
use Rattle.noc_commands.specs.declared.report.Report.{Report}
use Rattle.noc_commands.specs.declared.report.Report.TheVariants.{Latency}
use Rattle.noc_faults.specs.declared.fault.Fault.{Fault}
use Rattle.noc_faults.specs.declared.fault.Fault.TheVariants as fault
use Rattle.noc_faults.specs.declared.status.Status.{Status}
use Rattle.noc_faults.specs.declared.status.Status.TheVariants.{Done, Stuck}
use Rattle.noc_requests.specs.Check.{AsksForChecked}
use Rattle.noc_requests.specs.Drain.{RunsTo}

-- the report of a run that a command asks for
abbrev pub report_of : Command → Option Report
report_of command.Joined = Some Latency
report_of (command.Run workers report drain) = Some report
report_of _ = None

-- how many cycles are run at least: those of the configuration, or up to the one that is to be
-- explained, or traced last
abbrev pub cycles_asked : Command → Settings → ℕ
cycles_asked (command.Explain cycle router) s = cycle + 1
cycles_asked (command.Trace from to router packet verdicts changes) s = last_cycle to s.cycles + 1
cycles_asked _ s = s.cycles

-- whether a command runs on until every packet is out
abbrev pub runs_until_out : Command → Bool
runs_until_out (command.Run workers report drain) = drain
runs_until_out _ = false

-- the network of a relation, of buffers of this depth, and of a traffic text
pub record IsNetworkOf (routes : Routes) (depth : ℕ) (traffic : TextValue) (net : Setup)
    : Type 0 where
  pub relation : net.relation ≡ routes
  pub depth_is : net.depth ≡ depth
  pub packets : read_by traffic_of traffic ≡ Ok net.packets
  pub sound : fault_of routes net.packets ≡ None
  pub good : IsGoodSetup net

-- why no network is made of packets: this is their first fault, or memory was
-- refused where they have none
abbrev pub IsUnmade : Routes → List Packet → NetFault → Type 0
IsUnmade routes packets f =
    (fault_of routes packets ≡ Some f) ⊎ ((f ≡ net.Memory) × (fault_of routes packets ≡ None))

-- the first fault: the traffic, then its packets
pub data PacketsFault (routes : Routes) (traffic : TextValue) : Fault → Type 0 where
  bad_traffic : {f : InputFault} → IsUnread traffic_of traffic f
      → PacketsFault routes traffic (fault.Traffic f)
  bad_network : {packets : List Packet} {f : NetFault} → read_by traffic_of traffic ≡ Ok packets
      → IsUnmade routes packets f → PacketsFault routes traffic (fault.Network f)

-- the network that is asked for, once the ranks are checked that are to be
pub record Opens (a : Asked) (net : Setup) : Type 0 where
  pub settings : Settings
  pub routes : Routes
  pub before : AsksForChecked a settings routes
  pub network : IsNetworkOf routes settings.buffer a.traffic net

-- that network after the cycles that are asked for, or where it has drained
pub record AsksForRun (a : Asked) (run : Run) : Type 0 where
  pub opens : Opens a run.net
  pub cycles : RunsTo (runs_until_out a.command) run.net
      (cycles_asked a.command opens.settings) run.count

-- how a run has ended
abbrev pub ending : Run → Status
ending run = if is_stuck run.net run.count then Stuck else Done
