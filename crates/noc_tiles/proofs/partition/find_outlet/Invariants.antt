use Rattle.std.proofs.Common.{ℕ, ◌≢◌, ◌<◌, get_or}
use Rattle.noc_tiles.specs.Ends.{outlet}
use Rattle.noc_tiles.specs.declared.ends.Outlet.{Outlet}
use Rattle.noc_tiles.proofs.partition.find_outlet.Given as goal

-- no outlet so far is that of the wire
abbrev pub invariant-loop-k : goal.invariant-loop-k
invariant-loop-k l = (j : ℕ) (d : Outlet) → j < l.k → (outlet (get_or l.outs j d)).at ≢ (l.router, l.port)
