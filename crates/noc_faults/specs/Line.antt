-- The line that tells a fault (docs/FORMATS.md, "Fault lines").
use Rattle.std.specs.Prelude.{ℕ, List, [], ◌∷◌, ◌++◌, codes, decimal, nat_lt, if◌then◌else◌}
use Rattle.std.specs.List.{flat_map}
use Rattle.noc_topo.specs.Shape.{Grid, ports}
use Rattle.noc_topo.specs.Titles.{shape_title}
use Rattle.noc_route.specs.Titles.{route_title}
use Rattle.noc_rank.specs.Titles.{rank_title}
use Rattle.noc_net.specs.Titles.{net_title, run_title}
use Rattle.noc_bytes.specs.Titles.{input_title, write_title}
use Rattle.noc_bytes.specs.Keys.{key_name}
use Rattle.noc_files.specs.Ports.{name_of_port}
use Rattle.noc_files.specs.Writing.{line_end}
use Rattle.noc_bytes.specs.declared.input_fault.InputFault.{InputFault}
use Rattle.noc_bytes.specs.declared.input_fault.InputFault.TheVariants as input
use Rattle.noc_net.specs.declared.net_fault.NetFault.{NetFault}
use Rattle.noc_net.specs.declared.net_fault.NetFault.TheVariants as net
use Rattle.noc_rank.specs.Faults.{step_of}
use Rattle.noc_rank.specs.declared.fault.RankFault.{RankFault}
use Rattle.noc_rank.specs.declared.fault.RankFault.TheVariants as rank
use Rattle.noc_rank.specs.declared.channel.LinkChannel.{LinkChannel}
use Rattle.noc_route.specs.declared.rule.Entry.{Entry}
use Rattle.noc_route.specs.declared.rule.RouteFault.{RouteFault}
use Rattle.noc_route.specs.declared.rule.RouteFault.TheVariants as route
use Rattle.noc_route.specs.declared.rule.RouteRow.{RouteRow}
use Rattle.noc_faults.specs.declared.fault.OptionFault.{OptionFault}
use Rattle.noc_faults.specs.declared.fault.OptionFault.TheVariants as option
use Rattle.noc_faults.specs.declared.fault.Fault.{Fault}
use Rattle.noc_faults.specs.declared.fault.Fault.TheVariants as fault
use Rattle.noc_faults.specs.declared.line.Detail.{Detail}
use Rattle.noc_faults.specs.declared.line.Detail.TheVariants as detail

-- ---- a detail: a name and a value

abbrev pub name_of : Detail → List ℕ
name_of (detail.Key k) = codes " key "
name_of (detail.Row n) = codes " row "
name_of (detail.Column n) = codes " column "
name_of (detail.Class n) = codes " class "
name_of (detail.Router n) = codes " router "
name_of (detail.Port g port) = codes " port "
name_of (detail.Vc n) = codes " vc "
name_of (detail.Dst n) = codes " dst "
name_of (detail.Out g port) = codes " out "
name_of (detail.ToRouter n) = codes " to router "
name_of (detail.Rank n) = codes " ranks "
name_of (detail.NextRank n) = codes " "
name_of (detail.Written n) = codes " written "

-- the name of a port, or its number where the shape has no such port
abbrev pub port_text : Grid → ℕ → List ℕ
port_text g port = if nat_lt port (ports g) then name_of_port g port else decimal port

abbrev pub value_of : Detail → List ℕ
value_of (detail.Key k) = key_name k
value_of (detail.Row n) = decimal n
value_of (detail.Column n) = decimal n
value_of (detail.Class n) = decimal n
value_of (detail.Router n) = decimal n
value_of (detail.Port g port) = port_text g port
value_of (detail.Vc n) = decimal n
value_of (detail.Dst n) = decimal n
value_of (detail.Out g port) = port_text g port
value_of (detail.ToRouter n) = decimal n
value_of (detail.Rank n) = decimal n
value_of (detail.NextRank n) = decimal n
value_of (detail.Written n) = decimal n

abbrev pub detail_text : Detail → List ℕ
detail_text d = name_of d ++ value_of d

-- `fault`, a family, a number with its name, and details
unfoldable pub text_with : List ℕ → List ℕ → List Detail → List ℕ
text_with family title details =
    codes "fault " ++ family ++ codes " " ++ title ++ flat_map detail_text details

-- ---- families

abbrev pub family_of : Fault → List ℕ
family_of (fault.Joined f) = codes "joined"
family_of (fault.Config f) = codes "config"
family_of (fault.Table f) = codes "table"
family_of (fault.RankFile f) = codes "ranks"
family_of (fault.Traffic f) = codes "traffic"
family_of (fault.Option f) = codes "option"
family_of (fault.Shape f) = codes "shape"
family_of (fault.Relation f g) = codes "relation"
family_of (fault.Rank f g) = codes "rank"
family_of (fault.Network f) = codes "network"
family_of (fault.Run f) = codes "run"
family_of (fault.Write f) = codes "write"

-- ---- numbers with their names

abbrev pub option_title : OptionFault → List ℕ
option_title option.BadCycle = codes "1 BadCycle"
option_title option.BadRouter = codes "2 BadRouter"
option_title option.BadWorkers = codes "3 BadWorkers"
option_title option.NoTable = codes "4 NoTable"
option_title option.SpareTable = codes "5 SpareTable"
option_title option.BadPacket = codes "6 BadPacket"

abbrev pub title_of : Fault → List ℕ
title_of (fault.Joined f) = input_title f
title_of (fault.Config f) = input_title f
title_of (fault.Table f) = input_title f
title_of (fault.RankFile f) = input_title f
title_of (fault.Traffic f) = input_title f
title_of (fault.Option f) = option_title f
title_of (fault.Shape f) = shape_title f
title_of (fault.Relation f g) = route_title f
title_of (fault.Rank f g) = rank_title f
title_of (fault.Network f) = net_title f
title_of (fault.Run f) = run_title f
title_of (fault.Write f) = write_title

-- ---- details

abbrev pub input_details : InputFault → List Detail
input_details (input.MissingKey k) = detail.Key k ∷ []
input_details (input.WrongType k) = detail.Key k ∷ []
input_details (input.BadValue k) = detail.Key k ∷ []
input_details (input.BadCount row) = detail.Row row ∷ []
input_details (input.BadNumber row column) = detail.Row row ∷ detail.Column column ∷ []
input_details (input.BadPort row column) = detail.Row row ∷ detail.Column column ∷ []
input_details _ = []

abbrev pub entry_details : Grid → Entry → List Detail
entry_details g e =
    detail.Class e.class ∷ detail.Router e.router ∷ detail.Port g e.in_port ∷ detail.Vc e.in_vc
    ∷ detail.Dst e.dst ∷ []

-- where the packet of a row stands
abbrev pub entry_in : RouteRow → Entry
entry_in row = record {
  class = row.class;
  router = row.router;
  in_port = row.in_port;
  in_vc = row.in_vc;
  dst = row.dst;
}

abbrev pub hop_details : Grid → RouteRow → List Detail
hop_details g row =
    entry_details g (entry_in row) ++ detail.Out g row.out_port ∷ detail.Vc row.out_vc ∷ []

abbrev pub route_details : Grid → RouteFault → List Detail
route_details g (route.NoLink row) = hop_details g row
route_details g (route.NotMinimal row) = hop_details g row
route_details g (route.EarlyEject row) = hop_details g row
route_details g (route.LateHop row) = hop_details g row
route_details g (route.NoWay entry) = entry_details g entry
route_details g _ = []

abbrev pub both_ranks : ℕ → ℕ → List Detail
both_ranks before after = detail.Rank before ∷ detail.NextRank after ∷ []

-- a step, and the ranks before and after it
abbrev pub fall_details : Grid → Entry → ℕ → ℕ → ℕ → ℕ → List Detail
fall_details g entry port vc before after =
    hop_details g (step_of entry port vc) ++ both_ranks before after

abbrev pub channel_details : Grid → ℕ → ℕ → ℕ → List Detail
channel_details g router port vc = detail.Router router ∷ detail.Port g port ∷ detail.Vc vc ∷ []

-- two link channels and their ranks
abbrev pub descent_details : Grid → LinkChannel → LinkChannel → ℕ → ℕ → List Detail
descent_details g e o before after =
    channel_details g e.router e.port e.vc ++ detail.ToRouter o.router ∷ detail.Port g o.port
    ∷ detail.Vc o.vc ∷ both_ranks before after

abbrev pub rank_details : Grid → RankFault → List Detail
rank_details g (rank.NotRising entry port vc before after) =
    fall_details g entry port vc before after
rank_details g (rank.NotRisingTo e o before after) = descent_details g e o before after
rank_details g (rank.NoEscape entry) = entry_details g entry
rank_details g (rank.UnknownChannel row) = detail.Row row ∷ []
rank_details g (rank.DoubleChannel row) = detail.Row row ∷ []
rank_details g (rank.MissingChannel router port vc) = channel_details g router port vc
rank_details g (rank.BadRank row) = detail.Row row ∷ []
rank_details g _ = []

abbrev pub net_details : NetFault → List Detail
net_details (net.SelfPacket row) = detail.Row row ∷ []
net_details (net.BadNode row) = detail.Row row ∷ []
net_details (net.BadClass row) = detail.Row row ∷ []
net_details (net.BadLength row) = detail.Row row ∷ []
net_details (net.BadDue row) = detail.Row row ∷ []
net_details _ = []

abbrev pub details_of : Fault → List Detail
details_of (fault.Joined f) = input_details f
details_of (fault.Config f) = input_details f
details_of (fault.Table f) = input_details f
details_of (fault.RankFile f) = input_details f
details_of (fault.Traffic f) = input_details f
details_of (fault.Option f) = []
details_of (fault.Shape f) = []
details_of (fault.Relation f g) = route_details g f
details_of (fault.Rank f g) = rank_details g f
details_of (fault.Network f) = net_details f
details_of (fault.Run f) = []
details_of (fault.Write f) = detail.Written f.written ∷ []

-- ---- the line of a fault, without its end and with it

abbrev pub text_of : Fault → List ℕ
text_of f = text_with (family_of f) (title_of f) (details_of f)

abbrev pub line_of : Fault → List ℕ
line_of f = text_of f ++ line_end
