use Rattle.std.proofs.Common.{◌≡◌, ℕ, ◌≤◌, List, [], get_or}
use Rattle.std.specs.List.{AllWithin}
use Rattle.noc_packet.specs.declared.packet.Beat.{Beat}
use Rattle.noc_view.specs.View.{View}
use Rattle.noc_theory.specs.Halves.{IsSilent, incoming, view_after_decide}
use Rattle.noc_theory.proofs.runs.ListLemmas.{IsDoneTo}
use Rattle.noc_net.proofs.cycles.decide_all.Given as goal

-- the routers before this node have decided
abbrev pub invariant-loop-node : goal.invariant-loop-node
invariant-loop-node l = record {
  routers : IsDoneTo (λ (r : ℕ) (v : View). view_after_decide l.relation l.cycle (incoming l.relation.grid (get_or l.initial.beats r [])) v) l.initial.routers l.routers l.node;
  silent : AllWithin IsSilent l.beats 0 l.node;
  behind : (r : ℕ) (d : List Beat) → l.node ≤ r → get_or l.beats r d ≡ get_or l.initial.beats r d;
}
