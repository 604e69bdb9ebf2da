use Rattle.std.proofs.Common.{ℕ, ◌<◌, ◌≤◌}
use Rattle.std.specs.Prelude.{slice_index}
use Rattle.noc_topo.specs.declared.limits.TheConstants.{MAX_DISTANCE}
use Rattle.noc_route.proofs.map.Map.farthest.Given as goal

-- none of the distances so far is greater
abbrev pub invariant-loop-apart : goal.invariant-loop-apart
invariant-loop-apart l = record {
  bound : (k : ℕ) → k < l.apart-index → slice_index l.self.apart.items k ≤ l.farthest;
  few : l.farthest ≤ MAX_DISTANCE;
}
