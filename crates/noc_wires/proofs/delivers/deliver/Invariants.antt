use Rattle.std.proofs.Common.{◌≡◌, ℕ, ◌<◌, ◌≤◌, [], length, get_or}
use Rattle.noc_topo.specs.Shape.{local_port, nodes, neighbour}
use Rattle.noc_view.specs.View.{idle_beat}
use Rattle.noc_theory.specs.Halves.{beat_at}
use Rattle.noc_theory.proofs.runs.WireLemmas.{received_to}
use Rattle.noc_wires.proofs.delivers.deliver.Given as goal

-- the beats of the ports so far are put
abbrev pub invariant-loop-port : goal.invariant-loop-port
invariant-loop-port l = record {
  router : l.router ≡ record l.initial.router { to_put = l.router.to_put };
  count : length l.router.to_put ≡ local_port l.relation.grid;
  put : (k : ℕ) → k < l.port → get_or l.router.to_put k idle_beat ≡ idle_beat;
  left : (k : ℕ) → l.port ≤ k → get_or l.router.to_put k idle_beat ≡ get_or l.initial.router.to_put k idle_beat;
  beats : (r port : ℕ) → r < nodes l.relation.grid → beat_at l.beats r port ≡ received_to l.port l.initial.router (neighbour l.relation.grid r port) (beat_at l.initial.beats r port);
  rows : (i : ℕ) → i < length l.beats → length (get_or l.beats i []) ≡ 6;
}
