-- The options of a request: whether they go together, with the configuration, and with the shape.
use Rattle.std.specs.Prelude.{ℕ, ◌-◌, Bool, true, false, ◌&&◌, ◌||◌, not, Option, Some, None, nat_le, nat_lt, unwrap_or, if◌then◌else◌}
use Rattle.noc_topo.specs.Shape.{Grid, nodes}
use Rattle.noc_files.specs.Configuration.{Settings}
use Rattle.noc_route.specs.declared.rule.RuleName.{RuleName}
use Rattle.noc_route.specs.declared.rule.RuleName.TheVariants as rule_name
use Rattle.noc_files.specs.declared.trace.Traced.{Traced}
use Rattle.noc_faults.specs.declared.fault.OptionFault.{OptionFault}
use Rattle.noc_faults.specs.declared.fault.OptionFault.TheVariants.{BadCycle, BadPacket, BadRouter, BadWorkers, NoTable, SpareTable}
use Rattle.noc_commands.specs.declared.command.Command.{Command}
use Rattle.noc_commands.specs.declared.command.Command.TheVariants.{Run, Explain, Trace}

abbrev pub is_table : RuleName → Bool
is_table rule_name.Table = true
is_table _ = false

-- a table file beside another rule, or none beside the rule `table`
abbrev pub table_fault : RuleName → Bool → Option OptionFault
table_fault name has_table =
    if has_table && not (is_table name) then Some SpareTable
    else (if is_table name && not has_table then Some NoTable else None)

-- the command that traces this in the cycles between these
abbrev pub trace_of : Option ℕ → Option ℕ → Traced → Command
trace_of from to traced = Trace from to traced.router traced.packet traced.verdicts traced.changes

-- the cycles between which a trace is: from the first to the last of the configuration,
-- where they are not given
abbrev pub first_cycle : Option ℕ → ℕ
first_cycle from = unwrap_or from 0

abbrev pub last_cycle : Option ℕ → ℕ → ℕ
last_cycle to cycles = unwrap_or to (cycles - 1)

-- whether a span has a cycle that the run does not have, or ends before it begins
abbrev pub is_bad_span : ℕ → ℕ → ℕ → Bool
is_bad_span first last cycles = nat_le cycles first || nat_le cycles last || nat_lt last first

-- a cycle to be explained, or a span to be traced, that the run does not have
abbrev pub cycle_fault : Command → ℕ → Option OptionFault
cycle_fault (Explain cycle router) cycles = if nat_le cycles cycle then Some BadCycle else None
cycle_fault (Trace from to router packet verdicts changes) cycles =
    if is_bad_span (first_cycle from) (last_cycle to cycles) cycles then Some BadCycle else None
cycle_fault _ cycles = None

abbrev pub or_option_fault : Option OptionFault → Option OptionFault → Option OptionFault
or_option_fault None later = later
or_option_fault (Some fault) later = Some fault

-- the first fault of the options that is looked for before the shape
abbrev pub early_fault : Command → Bool → Settings → Option OptionFault
early_fault command has_table s =
    or_option_fault (table_fault s.rule has_table) (cycle_fault command s.cycles)

-- a router that does not exist
abbrev pub router_fault : Grid → Option ℕ → Option OptionFault
router_fault g None = None
router_fault g (Some router) = if nat_le (nodes g) router then Some BadRouter else None

-- the first fault of the options that is looked for after the shape: more workers than routers, or
-- a router that does not exist
abbrev pub late_fault : Command → Grid → Option OptionFault
late_fault (Run workers report drain) g = if nat_lt (nodes g) workers then Some BadWorkers else None
late_fault (Explain cycle router) g = router_fault g (Some router)
late_fault (Trace from to router packet verdicts changes) g = router_fault g router
late_fault _ g = None

-- a packet to be traced that is not among so many
abbrev pub number_fault : ℕ → Option ℕ → Option OptionFault
number_fault packets None = None
number_fault packets (Some packet) = if nat_le packets packet then Some BadPacket else None

-- the fault of the options that is looked for once the packets are known
abbrev pub packet_option_fault : Command → ℕ → Option OptionFault
packet_option_fault (Trace from to router packet verdicts changes) packets =
    number_fault packets packet
packet_option_fault _ packets = None
