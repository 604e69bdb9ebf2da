use Rattle.std.proofs.Common.{◌≡◌, ◌⊎◌, ℕ, ◌<◌, ◌≤◌, ◌+◌, ◌*◌, List, slice_index}
use Rattle.std.specs.Prelude.{◌&&◌}
use Rattle.noc_packet.specs.Set.{has_bit}
use Rattle.noc_sets.specs.Sets.{less}
use Rattle.noc_sets.specs.Unions.{some_below, union_from}
use Rattle.noc_columns.specs.Picks.{port_at, turn_word}
use Rattle.noc_columns.specs.Words.{word}
use Rattle.noc_columns.specs.declared.ports.Ports.{Ports}
use Rattle.noc_columns.proofs.picks.pick_side.Given as goal

-- the routers in which virtual channel c of port j is in turn
abbrev pub turn_at : Ports → List ℕ → List ℕ → List ℕ → ℕ → ℕ → ℕ
turn_at ports first ready ahead j c = turn_word (slice_index first j) (word ((port_at ports j).index c) ready) (word ((port_at ports j).index c) ahead)

abbrev pub invariant-loop-v : goal.invariant-loop-v
invariant-loop-v l = record {
  first : (j r : ℕ) → j < l.ports.width → has_bit (slice_index l.turn.first j) r ≡ some_below l.ports.vcs (λ c. has_bit (word ((port_at l.ports j).index c) l.ready) r && has_bit (word ((port_at l.ports j).index c) l.ahead) r);
  before : (j : ℕ) → j < l.ports.width → slice_index l.turn.before j ≡ union_from 0 l.v (turn_at l.ports l.turn.first l.ready l.ahead j);
  picked : (j c : ℕ) → j < l.ports.width → c < l.v → word ((port_at l.ports j).index c) l.picked ≡ less (turn_at l.ports l.turn.first l.ready l.ahead j c) (union_from 0 c (turn_at l.ports l.turn.first l.ready l.ahead j));
  past : (j c : ℕ) → j < l.ports.width → c < l.v → word ((port_at l.ports j).index c) l.past ≡ union_from 0 c (turn_at l.ports l.turn.first l.ready l.ahead j);
  others : (k : ℕ) → (k < l.ports.first) ⊎ (l.ports.first + l.v * l.ports.width ≤ k) → (word k l.picked ≡ word k l.fn.picked) × (word k l.past ≡ word k l.fn.past);
}
