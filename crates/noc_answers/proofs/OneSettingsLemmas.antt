-- A request's texts ask for one relation, and have one first fault before it.
use Rattle.std.proofs.Common.{◌≡◌, ◌≢◌, ℕ, false, Option, Some, None, Result, Ok, Err, refl, sym, subst, ap, ◌∙◌, is_some}
use Rattle.std.proofs.lemmas.Bool.{false≢true}
use Rattle.noc_topo.specs.Shape.{Grid, shape_of}
use Rattle.noc_topo.specs.declared.shape.ShapeFault.{ShapeFault}
use Rattle.noc_route.specs.Built.{IsRelationOfRule, routing_of}
use Rattle.noc_route.specs.Relation.{IsFaultOf}
use Rattle.noc_route.specs.Routes.{Routes}
use Rattle.noc_route.specs.declared.rule.RouteFault.{RouteFault}
use Rattle.noc_route.specs.declared.rule.RouteFault.TheVariants as route
use Rattle.noc_route.specs.declared.rule.Rule.{Rule}
use Rattle.noc_route.proofs.AlikeLemmas.{AreAlike, AreAlike-same, AreAlike-rows, IsRelationOfRule-alike, IsFaultOf-alike}
use Rattle.noc_route.proofs.OneFaultLemmas.{only-memory, one-fault}
use Rattle.noc_route.proofs.PinnedLemmas.{one-relation}
use Rattle.noc_files.specs.Configuration.{Settings, config_of}
use Rattle.noc_files.specs.Table.{table_of}
use Rattle.noc_route.specs.declared.rule.RuleName.{RuleName}
use Rattle.noc_bytes.specs.declared.input_fault.InputFault.{InputFault}
use Rattle.noc_requests.specs.Asked.{Asked, TextValue, read_by}
use Rattle.noc_requests.specs.Options.{early_fault, late_fault}
use Rattle.noc_requests.specs.Settings.{AsksForSettings, AsksForShape, AsksForRelation, IsRuleOf, named, tabled, RefusesTable, bad_table, SettingsFault, bad_config, bad_option, bad_shape, bad_late_option, in_table, bad_relation}
use Rattle.noc_faults.specs.Status.{is_memory}
use Rattle.noc_faults.specs.declared.fault.Fault.{Fault}
use Rattle.noc_faults.specs.declared.fault.Fault.TheVariants as fault
use Rattle.noc_faults.specs.declared.fault.OptionFault.{OptionFault}
use Rattle.noc_answers.proofs.MemoryLemmas.{config_not_memory, table_not_memory}

-- ---- up to the shape, step by step

-- settings with their shape
record Shaped : Type 0 where
  pub settings : Settings
  pub grid : Grid

after_late : Settings → Grid → Option OptionFault → Result Shaped Fault
after_late s g (Some f) = Err (fault.Option f)
after_late s g None = Ok (record { settings = s; grid = g })

after_shape : Asked → Settings → Result Grid ShapeFault → Result Shaped Fault
after_shape a s (Err f) = Err (fault.Shape f)
after_shape a s (Ok g) = after_late s g (late_fault a.command g)

after_early : Asked → Settings → Option OptionFault → Result Shaped Fault
after_early a s (Some f) = Err (fault.Option f)
after_early a s None = after_shape a s (shape_of s.kind s.radix)

after_config : Asked → Result Settings InputFault → Result Shaped Fault
after_config a (Err f) = Err (fault.Config f)
after_config a (Ok s) = after_early a s (early_fault a.command (is_some a.table) s)

-- the shape that is asked for, or the first fault up to it
shaped : Asked → Result Shaped Fault
shaped a = after_config a (read_by config_of a.config)

shaped-settings : (a : Asked) (s : Settings) → AsksForSettings a s → shaped a ≡ after_shape a s (shape_of s.kind s.radix)
unfolding shaped after_config after_early
shaped-settings a s h = ap (after_config a) h.configuration ∙ ap (after_early a s) h.options

shaped-ok : (a : Asked) (s : Settings) (g : Grid) → AsksForShape a s g → shaped a ≡ Ok (record { settings = s; grid = g })
unfolding after_shape after_late
shaped-ok a s g h = shaped-settings a s h.settings ∙ ap (after_shape a s) h.shaped ∙ ap (after_late s g) h.options

-- a fault up to the shape, or one of the table or of the relation
data At (a : Asked) (f : Fault) : Type 0 where
  before : shaped a ≡ Err f → At a f
  table : {s : Settings} {g : Grid} → AsksForShape a s g → RefusesTable a.table g s.rule f → At a f
  relation : {s : Settings} {g : Grid} {r : Rule} {h : RouteFault} → f ≡ fault.Relation h g → AsksForShape a s g → IsRuleOf a.table g s.rule r → IsFaultOf (routing_of g s.channels s.classes r) h → At a f

at : (a : Asked) (f : Fault) → is_memory f ≡ false → SettingsFault a f → At a f
unfolding shaped after_config after_early after_shape after_late
at a f p (bad_config {f = i} e) = before (ap (after_config a) (e (config_not_memory i p)))
at a f p (bad_option {s = s} e h) = before (ap (after_config a) e ∙ ap (after_early a s) h)
at a f p (bad_shape {s = s} h e) = before (shaped-settings a s h ∙ ap (after_shape a s) e)
at a f p (bad_late_option {s = s} {g = g} h e k) = before (shaped-settings a s h ∙ ap (after_shape a s) e ∙ ap (after_late s g) k)
at a f p (in_table h k) = table h k
at a f p (bad_relation h r k) = relation refl h r k

no_shape_after : (a : Asked) (f : Fault) (s : Settings) (g : Grid) → shaped a ≡ Err f → AsksForShape a s g → ⊥
no_shape_after a f s g e h = let never : Err f ≡ Ok (record { settings = s; grid = g }) = sym e ∙ shaped-ok a s g h in cc never

-- two shapes that are asked for are the same
same_shaped : (a : Asked) (s t : Settings) (g h : Grid) → AsksForShape a s g → AsksForShape a t h → (t ≡ s) × (h ≡ g)
same_shaped a s t g h x y =
    let both : Ok (record { settings = t; grid = h }) ≡ Ok (record { settings = s; grid = g }) = sym (shaped-ok a t h y) ∙ shaped-ok a s g x in
    let same : (record { settings = t; grid = h }) ≡ (record { settings = s; grid = g }) = cc in
    (ap (λ (z : Shaped). z.settings) same, ap (λ (z : Shaped). z.grid) same)

-- ---- the rule

-- the name of a rule and its table file give one rule, up to where its rows lie
alike : (t : Option TextValue) (g : Grid) (vcs classes : ℕ) (name : RuleName) (r s : Rule) → IsRuleOf t g name r → IsRuleOf t g name s → AreAlike g vcs classes r s
alike t g vcs classes name r s (named e) (named d) =
    let both : Some r ≡ Some s = sym e ∙ d in
    AreAlike-same g vcs classes r s (cc)
alike t g vcs classes name r s (named e) (tabled d k) = cc
alike t g vcs classes name r s (tabled e h) (named d) = cc
alike t g vcs classes name r s (tabled {text = x} {rows = v} e h) (tabled {text = y} {rows = w} d k) =
    let texts : Some x ≡ Some y = sym e ∙ d in
    let text : x ≡ y = cc in
    let both : Ok v.items ≡ Ok w.items = sym h ∙ ap (read_by (table_of g)) text ∙ k in
    AreAlike-rows g vcs classes v w (cc)

no_rule_after : (t : Option TextValue) (g : Grid) (name : RuleName) (r : Rule) (f : Fault) → is_memory f ≡ false → IsRuleOf t g name r → RefusesTable t g name f → ⊥
no_rule_after t g name r f p (named e) (bad_table d k) = cc
no_rule_after t g name r f p (tabled {text = x} {rows = v} e h) (bad_table {text = y} {f = i} d k) =
    let texts : Some x ≡ Some y = sym e ∙ d in
    let text : x ≡ y = cc in
    let never : Ok v.items ≡ Err i = sym h ∙ ap (read_by (table_of g)) text ∙ k (table_not_memory i p) in
    cc never

one_table_fault : (t : Option TextValue) (g : Grid) (name : RuleName) (f k : Fault) → is_memory f ≡ false → is_memory k ≡ false → RefusesTable t g name f → RefusesTable t g name k → f ≡ k
one_table_fault t g name f k p q (bad_table {text = x} {f = i} e h) (bad_table {text = y} {f = j} d u) =
    let texts : Some x ≡ Some y = sym e ∙ d in
    let text : x ≡ y = cc in
    let both : Err i ≡ Err j = sym (h (table_not_memory i p)) ∙ ap (read_by (table_of g)) text ∙ u (table_not_memory j q) in
    cc

not_memory : (f : RouteFault) (g : Grid) → is_memory (fault.Relation f g) ≡ false → f ≢ route.Memory
not_memory f g p e = false≢true (sym p ∙ ap (λ x. is_memory (fault.Relation x g)) e)

-- ---- the relation

-- the rule of a relation that is asked for, at the shape that another shape is
record Asking (a : Asked) (s : Settings) (g : Grid) (routes : Routes) : Type 0 where
  pub routing : Rule
  pub rule : IsRuleOf a.table g s.rule routing
  pub relation : IsRelationOfRule (routing_of g s.channels s.classes routing) routes

-- a relation that is asked for is that of the settings and the shape that are asked for
asking : (a : Asked) (s t : Settings) (g : Grid) (routes : Routes) → AsksForShape a s g → AsksForRelation a t routes → (t ≡ s) × Asking a s g routes
asking a s t g routes x asks =
    let same = same_shaped a s t g asks.grid x asks.shape in
    let P : Settings → Type 0 = λ z. Asking a z asks.grid routes in
    let Q : Grid → Type 0 = λ z. Asking a s z routes in
    (same.0, subst Q same.1 (subst P same.0 (record { routing = asks.routing; rule = asks.rule; relation = asks.relation })))

pub one_relation_asked : (a : Asked) (s t : Settings) (x y : Routes) → AsksForRelation a s x → AsksForRelation a t y → (s ≡ t) × (x ≡ y)
one_relation_asked a s t x y one other =
    let found = asking a s t one.grid y one.shape other in
    let k = found.1 in
    let like = alike a.table one.grid s.channels s.classes s.rule k.routing one.routing k.rule one.rule in
    (sym found.0, one-relation (routing_of one.grid s.channels s.classes one.routing) x y one.relation (IsRelationOfRule-alike one.grid s.channels s.classes k.routing one.routing y like k.relation))

-- a relation is asked for only where nothing before it is wrong
no_relation_at : (a : Asked) (s : Settings) (routes : Routes) (f : Fault) → is_memory f ≡ false → AsksForRelation a s routes → At a f → ⊥
no_relation_at a s routes f p asks (before e) = no_shape_after a f s asks.grid e asks.shape
no_relation_at a s routes f p asks (table {s = t} {g = g} h k) =
    let found = asking a t s g routes h asks in
    no_rule_after a.table g t.rule found.1.routing f p found.1.rule k
no_relation_at a s routes f p asks (relation {s = t} {g = g} {r = r} {h = i} e h rule bad) =
    let found = (asking a t s g routes h asks).1 in
    let like = alike a.table g t.channels t.classes t.rule found.routing r found.rule rule in
    let only = only-memory (routing_of g t.channels t.classes r) routes i (IsRelationOfRule-alike g t.channels t.classes found.routing r routes like found.relation) bad in
    not_memory i g (ap is_memory (sym e) ∙ p) only

pub no_settings_fault : (a : Asked) (s : Settings) (routes : Routes) (f : Fault) → is_memory f ≡ false → AsksForRelation a s routes → SettingsFault a f → ⊥
no_settings_fault a s routes f p asks bad = no_relation_at a s routes f p asks (at a f p bad)

-- ---- the first fault

module _ (a : Asked) where
  -- two faults of one table, or of the relation of one rule
  tables : (f k : Fault) (s t : Settings) (g h : Grid) → is_memory f ≡ false → is_memory k ≡ false → AsksForShape a s g → AsksForShape a t h → RefusesTable a.table g s.rule f → RefusesTable a.table h t.rule k → f ≡ k
  tables f k s t g h p q x y bad other =
      let same = same_shaped a s t g h x y in
      let P : Settings → Type 0 = λ z. RefusesTable a.table h z.rule k in
      let Q : Grid → Type 0 = λ z. RefusesTable a.table z s.rule k in
      one_table_fault a.table g s.rule f k p q bad (subst Q same.1 (subst P same.0 other))

  table_first : (f : Fault) (s t : Settings) (g h : Grid) (r : Rule) → is_memory f ≡ false → AsksForShape a s g → AsksForShape a t h → RefusesTable a.table g s.rule f → IsRuleOf a.table h t.rule r → ⊥
  table_first f s t g h r p x y bad rule =
      let same = same_shaped a s t g h x y in
      let P : Settings → Type 0 = λ z. IsRuleOf a.table h z.rule r in
      let Q : Grid → Type 0 = λ z. IsRuleOf a.table z s.rule r in
      no_rule_after a.table g s.rule r f p (subst Q same.1 (subst P same.0 rule)) bad

  -- a fault of a rule at a shape that is asked for
  record Failing (s : Settings) (g : Grid) (f : RouteFault) : Type 0 where
    pub routing : Rule
    pub rule : IsRuleOf a.table g s.rule routing
    pub bad : IsFaultOf (routing_of g s.channels s.classes routing) f

  relations : (f k : RouteFault) (s t : Settings) (g h : Grid) → f ≢ route.Memory → k ≢ route.Memory → AsksForShape a s g → AsksForShape a t h → Failing s g f → Failing t h k
      → fault.Relation f g ≡ fault.Relation k h
  relations f k s t g h p q x y one other =
      let same = same_shaped a s t g h x y in
      let P : Settings → Type 0 = λ z. Failing z h k in
      let Q : Grid → Type 0 = λ z. Failing s z k in
      let moved : Failing s g k = subst Q same.1 (subst P same.0 other) in
      let like = alike a.table g s.channels s.classes s.rule moved.routing one.routing moved.rule one.rule in
      let faults : f ≡ k = one-fault (routing_of g s.channels s.classes one.routing) f k p q one.bad (IsFaultOf-alike g s.channels s.classes moved.routing one.routing k like moved.bad) in
      ap (λ z. fault.Relation z g) faults ∙ ap (fault.Relation k) (sym same.1)

  one_at : (f k : Fault) → is_memory f ≡ false → is_memory k ≡ false → At a f → At a k → f ≡ k
  one_at f k p q (before e) (before d) = (let both : Err f ≡ Err k = sym e ∙ d in cc)
  one_at f k p q (before e) (table {s = s} {g = g} h u) = absurd (no_shape_after a f s g e h)
  one_at f k p q (before e) (relation {s = s} {g = g} d h r u) = absurd (no_shape_after a f s g e h)
  one_at f k p q (table {s = s} {g = g} h u) (before d) = absurd (no_shape_after a k s g d h)
  one_at f k p q (table {s = s} {g = g} h u) (table {s = t} {g = i} v w) = tables f k s t g i p q h v u w
  one_at f k p q (table {s = s} {g = g} h u) (relation {s = t} {g = i} {r = r} d v rule w) = absurd (table_first f s t g i r p h v u rule)
  one_at f k p q (relation {s = s} {g = g} e h r u) (before d) = absurd (no_shape_after a k s g d h)
  one_at f k p q (relation {s = s} {g = g} {r = r} e h rule u) (table {s = t} {g = i} v w) = absurd (table_first k t s i g r q v h w rule)
  one_at f k p q (relation {s = s} {g = g} {r = r} {h = x} e h rule u) (relation {s = t} {g = i} {r = o} {h = y} d v other w) =
      e ∙ relations x y s t g i (not_memory x g (ap is_memory (sym e) ∙ p)) (not_memory y i (ap is_memory (sym d) ∙ q)) h v (record { routing = r; rule = rule; bad = u }) (record { routing = o; rule = other; bad = w }) ∙ sym d

  pub one_settings_fault : (f k : Fault) → is_memory f ≡ false → is_memory k ≡ false → SettingsFault a f → SettingsFault a k → f ≡ k
  one_settings_fault f k p q x y = one_at f k p q (at a f p x) (at a k q y)
