-- What options that passed say of a cycle, a span and a router.
use Rattle.std.proofs.Common.{◌≡◌, ◌<◌, ◌≤◌, ℕ, Bool, true, false, Option, Some, None, ap, refl, subst, sym, ◌∙◌}
use Rattle.std.specs.Prelude.{◌||◌, is_some, nat_le, nat_lt, if◌then◌else◌}
use Rattle.std.specs.Option.{IfSome}
use Rattle.std.proofs.lemmas.Bool.{leb-false, ltb-false, or_parts}
use Rattle.noc_topo.specs.Shape.{Grid, nodes}
use Rattle.noc_route.specs.Routes.{Routes}
use Rattle.noc_theory.specs.Network.{Setup}
use Rattle.noc_files.specs.declared.trace.Traced.{Traced}
use Rattle.noc_requests.specs.Asked.{Asked}
use Rattle.noc_requests.specs.Options.{early_fault, first_cycle, is_bad_span, last_cycle, late_fault, or_option_fault, router_fault, table_fault, trace_of}
use Rattle.noc_requests.specs.Run.{Opens}
use Rattle.noc_faults.specs.declared.fault.OptionFault.{OptionFault}
use Rattle.noc_faults.specs.declared.fault.OptionFault.TheVariants.{BadCycle, BadRouter}
use Rattle.noc_commands.specs.declared.command.Command.{Command}
use Rattle.noc_commands.specs.declared.command.Command.TheVariants.{Explain}

passes : (earlier : Option OptionFault) (late : Bool) → or_option_fault earlier (if late then Some BadCycle else None) ≡ None → late ≡ false
passes None true h = cc
passes None false h = refl
passes (Some fault) late h = cc

-- a router that passed is there
there : (g : Grid) (router : Option ℕ) → router_fault g router ≡ None → IfSome router (λ r. r < nodes g)
there g None h = tt
there g (Some r) h = leb-false (nodes g) r (found (nat_le (nodes g) r) h)
  where
    found : (bad : Bool) → (if bad then Some BadRouter else None) ≡ None → bad ≡ false
    found true e = cc
    found false e = refl

-- a span that lies in the run
pub record Lies (first last cycles : ℕ) : Type 0 where
  pub order : first ≤ last
  pub inside : last < cycles

module _ (a : Asked) (net : Setup) (opens : Opens a net) where
  grid : net.relation.grid ≡ opens.before.relation.grid
  grid = ap (λ (r : Routes). r.grid) opens.network.relation ∙ opens.before.relation.relation.grid

  -- the cycle that is explained is one of the run
  pub explained-cycle : (cycle router : ℕ) → a.command ≡ Explain cycle router → cycle < opens.settings.cycles
  explained-cycle cycle router e =
      let has = is_some a.table in
      let s = opens.settings in
      leb-false s.cycles cycle (passes (table_fault s.rule has) (nat_le s.cycles cycle) (subst (λ c. early_fault c has s ≡ None) e opens.before.relation.shape.settings.options))

  -- and the router is there
  pub explained-router : (cycle router : ℕ) → a.command ≡ Explain cycle router → router < nodes net.relation.grid
  explained-router cycle router e =
      let g = opens.before.relation.grid in
      let passed : router_fault g (Some router) ≡ None = subst (λ (x : Command). late_fault x g ≡ None) e opens.before.relation.shape.options in
      subst (λ (z : Grid). router < nodes z) (sym grid) (there g (Some router) passed)

  -- the span that is traced lies in the run
  pub traced-span : (from to : Option ℕ) (traced : Traced) (cycles : ℕ) → a.command ≡ trace_of from to traced → cycles ≡ opens.settings.cycles
      → Lies (first_cycle from) (last_cycle to cycles) cycles
  traced-span from to traced cycles e is =
      let has = is_some a.table in
      let s = opens.settings in
      let first = first_cycle from in
      let last = last_cycle to s.cycles in
      let good = passes (table_fault s.rule has) (is_bad_span first last s.cycles) (subst (λ c. early_fault c has s ≡ None) e opens.before.relation.shape.settings.options) in
      let parts = or_parts (nat_le s.cycles first || nat_le s.cycles last) (nat_lt last first) good in
      let ends = or_parts (nat_le s.cycles first) (nat_le s.cycles last) parts.0 in
      let P : ℕ → Type 0 = λ n. Lies first (last_cycle to n) n in
      subst P (sym is) (record { order = ltb-false last first parts.1; inside = leb-false s.cycles last ends.1 })

  -- and the router is there, if there is one
  pub traced-router : (from to : Option ℕ) (traced : Traced) → a.command ≡ trace_of from to traced → IfSome traced.router (λ router. router < nodes net.relation.grid)
  traced-router from to traced e =
      let g = opens.before.relation.grid in
      let passed : router_fault g traced.router ≡ None = subst (λ (x : Command). late_fault x g ≡ None) e opens.before.relation.shape.options in
      subst (λ (z : Grid). IfSome traced.router (λ r. r < nodes z)) (sym grid) (there g traced.router passed)
