use Rattle.std.proofs.Common.{◌≡◌, ◌⊎◌, ℕ, ◌+◌, ◌<◌, ◌≤◌, List, [], length, get_or}
use Rattle.noc_packet.specs.declared.packet.Beat.{Beat}
use Rattle.noc_view.specs.View.{View, idle_beat, view_after_takes}
use Rattle.noc_theory.specs.Halves.{beat_at, incoming}
use Rattle.noc_theory.proofs.runs.ListLemmas.{IsDoneTo}
use Rattle.noc_tiles.proofs.worker.take_all.Given as goal

-- the routers before this one have taken their beats
abbrev pub invariant-loop-i : goal.invariant-loop-i
invariant-loop-i l = record {
  routers : IsDoneTo (λ (k : ℕ) (v : View). view_after_takes l.relation (incoming l.relation.grid (get_or l.initial.beats (l.first + k) [])) v) l.initial.routers l.routers l.i;
  size : length l.beats ≡ length l.initial.beats;
  silent : (r q : ℕ) → l.first ≤ r → r < l.first + l.i → beat_at l.beats r q ≡ idle_beat;
  others : (r : ℕ) (d : List Beat) → (r < l.first) ⊎ (l.first + l.i ≤ r) → get_or l.beats r d ≡ get_or l.initial.beats r d;
}
