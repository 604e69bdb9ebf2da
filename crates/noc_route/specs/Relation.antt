-- Routing rules, the entries that packets reach, and the routing relation.
use Rattle.std.specs.Prelude.{◌≡◌, ◌≢◌, ℕ, ◌+◌, ◌*◌, ◌/◌, ◌%◌, ◌<◌, Bool, true, false, ◌&&◌, ◌||◌, not, IsTrue, List, [], ◌∷◌, Option, Some, None, is_some, nat_eq, nat_lt, nat_le, slice_index, if◌then◌else◌, unwrap_or, All, Contains, ◌⊎◌}
use Rattle.std.specs.List.{list_any}
use Rattle.noc_topo.specs.Lists.{is_some_of}
use Rattle.noc_topo.specs.Shape.{Grid, coordinates, nodes, dimensions, is_plus, local_port, neighbour, distance}
use Rattle.noc_packet.specs.declared.limits.TheConstants.{MAX_CHANNELS, MAX_CLASSES}
use Rattle.noc_steps.specs.Ways.{goes_up, is_west_first, is_of_class, dateline_class, is_escape_by}
use Rattle.noc_route.specs.Channel.{Channel, Link, Inject, Eject, arrival_of, channel_vc}
use Rattle.noc_route.specs.Order.{numbers_before, row_numbers, row_before, entry_numbers}
use Rattle.noc_route.specs.declared.rule.RouteRow.{RouteRow}
use Rattle.noc_route.specs.declared.rule.Entry.{Entry}
use Rattle.noc_route.specs.declared.rule.RouteFault.{RouteFault}
use Rattle.noc_route.specs.declared.rule.RouteFault.TheVariants.{WrongShape, NoLink, NotMinimal, EarlyEject, LateHop, NoWay, Memory}
use Rattle.noc_route.specs.declared.rule.Rule.{Rule}
use Rattle.noc_route.specs.declared.rule.Rule.TheVariants.{Dor, Dateline, WestFirst, Adaptive, Rows}

-- what a relation is made of
pub record RelationParts : Type 0 where
  pub grid : Grid
  pub vcs : ℕ
  pub classes : ℕ
  pub rule : Rule

-- how many channels of each class, its lowest, are escape channels of the rule `adaptive`
abbrev pub escapes : Grid → ℕ
escapes g = if g.wraps then 2 else 1

-- whether a rule fits the shape and the numbers of channels and classes
abbrev pub fits : Grid → ℕ → ℕ → Rule → Bool
fits g vcs classes Dor = true
fits g vcs classes Dateline = g.wraps && nat_eq (vcs % (2 * classes)) 0
fits g vcs classes WestFirst = not g.wraps && nat_eq (dimensions g) 2
fits g vcs classes Adaptive = nat_lt (escapes g) (vcs / classes)
fits g vcs classes (Rows rows) = true

-- whether the numbers of channels and classes are within their limits, and the
-- rule fits them and the shape
abbrev pub is_right : Grid → ℕ → ℕ → Rule → Bool
is_right g vcs classes rule =
    nat_le 1 vcs && nat_le vcs MAX_CHANNELS && nat_le 1 classes && nat_le classes MAX_CLASSES
    && nat_eq (vcs % classes) 0
    && fits g vcs classes rule

-- ---- ports

-- the port of dimension order: in the lowest dimension in which x and t differ
abbrev pub dor_port_from : Bool → ℕ → List ℕ → List ℕ → List ℕ → Option ℕ
dor_port_from wraps i [] xs ts = None
dor_port_from wraps i (k ∷ ks) [] ts = None
dor_port_from wraps i (k ∷ ks) (x ∷ xs) [] = None
dor_port_from wraps i (k ∷ ks) (x ∷ xs) (t ∷ ts) =
    if nat_eq x t
    then dor_port_from wraps (i + 1) ks xs ts
    else Some (if goes_up wraps k x t then 2 * i else 2 * i + 1)

abbrev pub dor_port : Grid → List ℕ → List ℕ → Option ℕ
dor_port g xs ts = dor_port_from g.wraps 0 g.radix xs ts

-- a port along the shorter way in its dimension, and up where both are equally long
abbrev pub is_nearer : Grid → List ℕ → List ℕ → ℕ → Bool
is_nearer g xs ts port =
    let i = port / 2 in
    not (nat_eq (slice_index xs i) (slice_index ts i))
    && (if goes_up g.wraps (slice_index g.radix i) (slice_index xs i) (slice_index ts i)
    then is_plus port else not (is_plus port))

-- whether a rule by coordinates leads along this port, from a router at xs
-- towards a destination at ts
abbrev pub takes_port : Grid → Rule → List ℕ → List ℕ → ℕ → Bool
takes_port g Dor xs ts port = is_some_of (dor_port g xs ts) port
takes_port g Dateline xs ts port = is_some_of (dor_port g xs ts) port
takes_port g WestFirst xs ts port = is_nearer g xs ts port && is_west_first xs ts port
takes_port g Adaptive xs ts port = is_nearer g xs ts port
takes_port g (Rows rows) xs ts port = false

-- ---- channels

-- the half of its class's channels in which a channel is
abbrev pub resource_class : ℕ → ℕ → ℕ → ℕ
resource_class vcs classes v = v % (vcs / classes) / (vcs / classes / 2)

-- the index of a channel among those of its class
abbrev pub index_in_class : ℕ → ℕ → ℕ → ℕ
index_in_class vcs classes v = v % (vcs / classes)

-- whether a channel is an escape channel of `adaptive`; its other channels are adaptive
abbrev pub is_escape : Grid → ℕ → ℕ → ℕ → Bool
is_escape g vcs classes v = nat_lt (index_in_class vcs classes v) (escapes g)

-- the escape channel of dimension order: on a torus the one for the half that a dateline takes
abbrev pub is_escape_taken : Grid → ℕ → ℕ → List ℕ → List ℕ → ℕ → ℕ → Bool
is_escape_taken g vcs classes xs ts port v =
    is_escape_by g.wraps (dor_port g xs ts) port (slice_index xs (port / 2))
    (slice_index ts (port / 2)) (index_in_class vcs classes v)

-- whether a rule by coordinates takes a channel of a port that it takes, among
-- those of the packet's class
abbrev pub takes_of_class : Grid → ℕ → ℕ → Rule → List ℕ → List ℕ → ℕ → ℕ → Bool
takes_of_class g vcs classes Dor xs ts port v = true
takes_of_class g vcs classes Dateline xs ts port v =
    nat_eq (resource_class vcs classes v)
    (dateline_class port (slice_index xs (port / 2)) (slice_index ts (port / 2)))
takes_of_class g vcs classes WestFirst xs ts port v = true
takes_of_class g vcs classes Adaptive xs ts port v =
    not (is_escape g vcs classes v) || is_escape_taken g vcs classes xs ts port v
takes_of_class g vcs classes (Rows rows) xs ts port v = true

-- whether a rule by coordinates may take this channel of a port that it takes
abbrev pub takes_channel : Grid → ℕ → ℕ → Rule → ℕ → List ℕ → List ℕ → ℕ → ℕ → Bool
takes_channel g vcs classes rule m xs ts port v =
    is_of_class vcs classes m v && takes_of_class g vcs classes rule xs ts port v

-- ---- rows

-- the rows of a rule that is a table
abbrev pub rows_of : Rule → Option (List RouteRow)
rows_of (Rows rows) = Some rows.items
rows_of _ = None

-- the rows of a table, none of another rule
abbrev pub table_rows_of : Rule → List RouteRow
table_rows_of rule = unwrap_or (rows_of rule) []

-- whether a row names this entry and this output channel
abbrev pub names_entry : ℕ → ℕ × ℕ → ℕ → ℕ → ℕ → ℕ → RouteRow → Bool
names_entry m input in_vc t port v row =
    nat_eq row.class m && nat_eq row.router input.0 && nat_eq row.in_port input.1
    && nat_eq row.in_vc in_vc
    && nat_eq row.dst t && nat_eq row.out_port port && nat_eq row.out_vc v

abbrev pub has_route_row : List RouteRow → ℕ → ℕ × ℕ → ℕ → ℕ → ℕ → ℕ → Bool
has_route_row rows m input in_vc t port v = list_any (names_entry m input in_vc t port v) rows

-- whether a router has this port, and it is local or has a link
abbrev pub is_open : Grid → ℕ → ℕ → Bool
is_open g router port = nat_eq port (local_port g) || is_some (neighbour g router port)

-- whether what a row names exists
abbrev pub is_real_row : Grid → ℕ → ℕ → RouteRow → Bool
is_real_row g vcs classes row =
    nat_lt row.class classes && nat_lt row.router (nodes g) && nat_lt row.in_vc vcs
    && nat_lt row.out_vc vcs && nat_lt row.dst (nodes g)
    && is_open g row.router row.in_port && is_open g row.router row.out_port

-- what is wrong with a row whose output port leads to this neighbour, or is local
abbrev pub hop_fault : Grid → RouteRow → Option (ℕ × ℕ) → Option RouteFault
hop_fault g row None = if nat_eq row.router row.dst then None else Some (EarlyEject row)
hop_fault g row (Some next) =
    if nat_eq row.router row.dst then Some (LateHop row)
    else (if nat_lt (distance g next.0 row.dst) (distance g row.router row.dst) then None
    else Some (NotMinimal row))

-- the first fault of a row
abbrev pub row_fault : Grid → ℕ → ℕ → RouteRow → Option RouteFault
row_fault g vcs classes row =
    if is_real_row g vcs classes row then hop_fault g row (neighbour g row.router row.out_port)
    else Some (NoLink row)

-- a row, if it has a fault and comes before the other, and else the other
abbrev pub earlier_fault : Grid → ℕ → ℕ → RouteRow → Option RouteRow → Option RouteRow
earlier_fault g vcs classes row other =
    if is_some (row_fault g vcs classes row) && row_before row other then Some row else other

-- the fault of the first row that has one, in the order of the rows' numbers
pub record IsFirstFault (g : Grid) (vcs classes : ℕ) (rows : List RouteRow) (fault : RouteFault)
    : Type 0 where
  pub row : RouteRow
  pub there : Contains rows row
  pub faulty : row_fault g vcs classes row ≡ Some fault
  pub first : All (λ other. (row_fault g vcs classes other ≡ None)
      ⊎ (numbers_before (row_numbers other) (row_numbers row) ≡ false)) rows

-- ---- the rule

-- whether a rule by coordinates leads a packet of class m at router r, bound for t, on to channel v
-- of this output port: at the destination to the ejection channels of the class
abbrev pub is_led : RelationParts → ℕ → ℕ → ℕ → ℕ → ℕ → Bool
is_led g m r t port v =
    if nat_eq r t
    then nat_eq port (local_port g.grid) && is_of_class g.vcs g.classes m v
    else takes_port g.grid g.rule (coordinates g.grid.radix r) (coordinates g.grid.radix t) port
    && takes_channel g.grid g.vcs g.classes g.rule m (coordinates g.grid.radix r)
    (coordinates g.grid.radix t) port v

-- whether the rule leads a packet of class m, that came to this input (a router and its port) on
-- channel in_vc and is bound for t, on to channel v of this output port
abbrev pub leads : RelationParts → ℕ → ℕ × ℕ → ℕ → ℕ → ℕ → ℕ → Bool
leads g m input in_vc t port v = elim (rows_of g.rule) [
  | Some rows ↦ has_route_row rows m input in_vc t port v
  | None ↦ is_led g m input.0 t port v
]

abbrev pub rule_offers : RelationParts → ℕ → Option (ℕ × ℕ) → ℕ → ℕ → Channel → Bool
rule_offers g m None in_vc t o = false
rule_offers g m (Some input) in_vc t (Inject n v) = false
rule_offers g m (Some input) in_vc t (Link r p v) =
    nat_eq r input.0 && nat_lt p (local_port g.grid) && leads g m input in_vc t p v
rule_offers g m (Some input) in_vc t (Eject n v) =
    nat_eq n input.0 && leads g m input in_vc t (local_port g.grid) v

-- the rule has the class m, the channel c on which a packet is, its destination
-- t, and the next channel o
abbrev pub rule_has : RelationParts → ℕ → Channel → ℕ → Channel → Bool
rule_has g m c t o = rule_offers g m (arrival_of g.grid c) (channel_vc c) t o

-- the least set of entries with every injection channel, and with each link channel to which the
-- rule leads from one of them
pub data IsReached (g : RelationParts) : ℕ → Channel → ℕ → Type 0 where
  injected : {m n v t : ℕ} → m < g.classes → n < nodes g.grid → v < g.vcs → t < nodes g.grid → t ≢ n
      → IsReached g m (Inject n v) t
  led_on : {m t : ℕ} {c : Channel} {r p v : ℕ} → IsReached g m c t
      → IsTrue (rule_has g m c t (Link r p v)) → IsReached g m (Link r p v) t

-- the relation: the rule on the entries that packets reach
abbrev pub IsPermitted : RelationParts → ℕ → Channel → ℕ → Channel → Type 0
IsPermitted g m c t o = IsReached g m c t × IsTrue (rule_has g m c t o)

-- ---- faults

-- packets come to an entry, and the rule leads nowhere from it
pub record IsNoWay (g : RelationParts) (e : Entry) : Type 0 where
  pub channel : Channel
  pub arrives : arrival_of g.grid channel ≡ Some (e.router, e.in_port)
  pub vc : channel_vc channel ≡ e.in_vc
  pub reached : IsReached g e.class channel e.dst
  pub none : (o : Channel) → rule_has g e.class channel e.dst o ≡ false

-- the first such entry, by the entries' numbers, of a rule with right numbers and without a bad row
pub record IsFirstNoWay (g : RelationParts) (e : Entry) : Type 0 where
  pub right : is_right g.grid g.vcs g.classes g.rule ≡ true
  pub rows : All (λ row. row_fault g.grid g.vcs g.classes row ≡ None) (table_rows_of g.rule)
  pub here : IsNoWay g e
  pub first : (other : Entry) → IsNoWay g other
      → numbers_before (entry_numbers other) (entry_numbers e) ≡ false

-- the fault of the first bad row, of a rule with right numbers
pub record IsFirstRow (g : RelationParts) (fault : RouteFault) : Type 0 where
  pub right : is_right g.grid g.vcs g.classes g.rule ≡ true
  pub first : IsFirstFault g.grid g.vcs g.classes (table_rows_of g.rule) fault

-- the first fault of a rule; memory may be refused wherever the numbers are right
abbrev pub IsFaultOf : RelationParts → RouteFault → Type 0
IsFaultOf g WrongShape = is_right g.grid g.vcs g.classes g.rule ≡ false
IsFaultOf g (NoLink row) = IsFirstRow g (NoLink row)
IsFaultOf g (NotMinimal row) = IsFirstRow g (NotMinimal row)
IsFaultOf g (EarlyEject row) = IsFirstRow g (EarlyEject row)
IsFaultOf g (LateHop row) = IsFirstRow g (LateHop row)
IsFaultOf g (NoWay e) = IsFirstNoWay g e
IsFaultOf g Memory = is_right g.grid g.vcs g.classes g.rule ≡ true
