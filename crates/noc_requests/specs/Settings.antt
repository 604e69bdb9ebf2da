-- What is asked for before ranks and traffic are looked at: a configuration with its options, its
-- shape and its routing relation.
use Rattle.std.specs.Prelude.{◌≡◌, Option, Some, None, Ok, Err, Vec, is_some}
use Rattle.std.specs.declared.alloc.Global.{Global}
use Rattle.noc_topo.specs.Shape.{Grid, shape_of}
use Rattle.noc_topo.specs.declared.shape.ShapeFault.{ShapeFault}
use Rattle.noc_route.specs.Built.{IsRelationOfRule, routing_of}
use Rattle.noc_route.specs.Names.{rule_named}
use Rattle.noc_route.specs.Relation.{IsFaultOf}
use Rattle.noc_route.specs.Routes.{Routes}
use Rattle.noc_route.specs.declared.rule.RouteFault.{RouteFault}
use Rattle.noc_route.specs.declared.rule.RouteRow.{RouteRow}
use Rattle.noc_route.specs.declared.rule.Rule.{Rule}
use Rattle.noc_route.specs.declared.rule.Rule.TheVariants as rule
use Rattle.noc_route.specs.declared.rule.RuleName.{RuleName}
use Rattle.noc_route.specs.declared.rule.RuleName.TheVariants as rule_name
use Rattle.noc_files.specs.Configuration.{Settings, config_of}
use Rattle.noc_files.specs.Table.{table_of}
use Rattle.noc_bytes.specs.declared.input_fault.InputFault.{InputFault}
use Rattle.noc_requests.specs.Asked.{Asked, IsUnread, TextValue, read_by}
use Rattle.noc_requests.specs.Options.{early_fault, late_fault}
use Rattle.noc_faults.specs.declared.fault.Fault.{Fault}
use Rattle.noc_faults.specs.declared.fault.Fault.TheVariants as fault
use Rattle.noc_faults.specs.declared.fault.OptionFault.{OptionFault}

-- the settings of a configuration, whose options are sound as far as they need no shape
pub record AsksForSettings (a : Asked) (s : Settings) : Type 0 where
  pub configuration : read_by config_of a.config ≡ Ok s
  pub options : early_fault a.command (is_some a.table) s ≡ None

-- settings with their shape, which goes with the options too
pub record AsksForShape (a : Asked) (s : Settings) (g : Grid) : Type 0 where
  pub settings : AsksForSettings a s
  pub shaped : shape_of s.kind s.radix ≡ Ok g
  pub options : late_fault a.command g ≡ None

-- the rule of this name: one by formula, or that of the table file's rows
pub data IsRuleOf (table : Option TextValue) (g : Grid) : RuleName → Rule → Type 0 where
  named : {name : RuleName} {r : Rule} → rule_named name ≡ Some r → IsRuleOf table g name r
  tabled : {text : TextValue} {rows : Vec RouteRow Global} → table ≡ Some text
      → read_by (table_of g) text ≡ Ok rows.items
      → IsRuleOf table g rule_name.Table (rule.Rows rows)

-- a table file is to be read, and this is why it is not
pub data RefusesTable (table : Option TextValue) (g : Grid) : RuleName → Fault → Type 0 where
  bad_table : {text : TextValue} {f : InputFault} → table ≡ Some text → IsUnread (table_of g) text f
      → RefusesTable table g rule_name.Table (fault.Table f)

-- the routing relation of that rule on that shape, with the channels and
-- the classes of the settings
pub record AsksForRelation (a : Asked) (s : Settings) (routes : Routes) : Type 0 where
  pub grid : Grid
  pub shape : AsksForShape a s grid
  pub routing : Rule
  pub rule : IsRuleOf a.table grid s.rule routing
  pub relation : IsRelationOfRule (routing_of grid s.channels s.classes routing) routes

-- the first fault: the configuration, the options, the shape, the options once
-- more, the table, the relation
pub data SettingsFault (a : Asked) : Fault → Type 0 where
  bad_config : {f : InputFault} → IsUnread config_of a.config f → SettingsFault a (fault.Config f)
  bad_option : {s : Settings} {f : OptionFault} → read_by config_of a.config ≡ Ok s
      → early_fault a.command (is_some a.table) s ≡ Some f → SettingsFault a (fault.Option f)
  bad_shape : {s : Settings} {f : ShapeFault} → AsksForSettings a s
      → shape_of s.kind s.radix ≡ Err f → SettingsFault a (fault.Shape f)
  bad_late_option : {s : Settings} {g : Grid} {f : OptionFault} → AsksForSettings a s
      → shape_of s.kind s.radix ≡ Ok g → late_fault a.command g ≡ Some f
      → SettingsFault a (fault.Option f)
  in_table : {s : Settings} {g : Grid} {f : Fault} → AsksForShape a s g
      → RefusesTable a.table g s.rule f → SettingsFault a f
  bad_relation : {s : Settings} {g : Grid} {r : Rule} {f : RouteFault} → AsksForShape a s g
      → IsRuleOf a.table g s.rule r → IsFaultOf (routing_of g s.channels s.classes r) f
      → SettingsFault a (fault.Relation f g)
