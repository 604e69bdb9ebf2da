use Rattle.std.proofs.Common.{◌≡◌, ℕ, ◌<◌, map}
use Rattle.noc_topo.specs.Shape.{nodes, neighbour}
use Rattle.noc_view.specs.View.{View}
use Rattle.noc_theory.specs.Halves.{beat_at, view_after_puts}
use Rattle.noc_theory.proofs.runs.ListLemmas.{IsDoneTo}
use Rattle.noc_theory.proofs.runs.WireLemmas.{put_by}
use Rattle.noc_net.proofs.cycles.deliver_all.Given as goal

-- the routers before this node have put their beats
abbrev pub invariant-loop-node : goal.invariant-loop-node
invariant-loop-node l = record {
  routers : IsDoneTo (λ (r : ℕ) (v : View). view_after_puts v) l.initial.routers l.routers l.node;
  beats : (r port : ℕ) → r < nodes l.relation.grid → beat_at l.beats r port ≡ put_by l.node (map (λ (v : View). v.to_put) l.initial.routers) (neighbour l.relation.grid r port);
}
