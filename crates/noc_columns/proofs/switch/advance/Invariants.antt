use Rattle.std.proofs.Common.{◌≡◌, ℕ, ◌<◌, ◌≤◌, ◌+◌, List, bit_and, bit_or, slice_index}
use Rattle.noc_sets.specs.Sets.{less}
use Rattle.noc_columns.specs.Picks.{port_of}
use Rattle.noc_columns.specs.Words.{word}
use Rattle.noc_columns.specs.declared.ports.RouterPorts.{RouterPorts}
use Rattle.noc_columns.proofs.switch.advance.Given as goal

-- what the pointer of output port q becomes at input port p
abbrev pub next_at : RouterPorts → List ℕ → List ℕ → List ℕ → ℕ → ℕ → ℕ
next_at outputs any past ahead q p = bit_or (bit_and (word ((port_of outputs q).index p) past) (slice_index any q)) (less (word ((port_of outputs q).index p) ahead) (slice_index any q))

abbrev pub invariant-loop-p : goal.invariant-loop-p
invariant-loop-p l = record {
  done : (q k : ℕ) → q < l.outputs.links.width + 1 → k < l.p → word ((port_of l.outputs q).index k) l.ahead ≡ next_at l.outputs l.any l.past l.fn.ahead q k;
  left : (q k : ℕ) → q < l.outputs.links.width + 1 → l.p ≤ k → k < l.outputs.links.vcs → word ((port_of l.outputs q).index k) l.ahead ≡ word ((port_of l.outputs q).index k) l.fn.ahead;
}
