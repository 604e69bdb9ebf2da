use Rattle.std.proofs.Common.{◌≡◌, ◌<◌, ℕ, true}
use Rattle.noc_columns.specs.declared.ports.TheConstants.{PORTS}
use Rattle.noc_cycles.specs.Around.{end_by}
use Rattle.noc_engine.specs.Shows.{has_router}
use Rattle.noc_workers.proofs.borders.leads.Given as goal

-- none of those of the routers so far
abbrev pub invariant-loop-r : goal.invariant-loop-r
invariant-loop-r l = (r p : ℕ) → r < l.r → p < PORTS → has_router l.there (end_by l.around.ends r p) ≡ true → ⊥
