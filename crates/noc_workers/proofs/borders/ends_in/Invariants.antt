use Rattle.std.proofs.Common.{◌≡◌, ◌<◌, ℕ, get_or, true}
use Rattle.noc_engine.specs.Shows.{has_router}
use Rattle.noc_workers.proofs.borders.ends_in.Given as goal

-- none of those so far
abbrev pub invariant-loop-p : goal.invariant-loop-p
invariant-loop-p l = (p : ℕ) → p < l.p → has_router l.there (get_or l.ends p 0) ≡ true → ⊥
