use Rattle.std.proofs.Common.{◌≡◌, ℕ, ◌<◌, ◌+◌, bit_and, slice_index}
use Rattle.noc_sets.specs.Unions.{union_from}
use Rattle.noc_columns.specs.Picks.{port_of}
use Rattle.noc_columns.specs.Words.{word}
use Rattle.noc_columns.proofs.switch.of_taken.Given as goal

abbrev pub invariant-loop-p : goal.invariant-loop-p
invariant-loop-p l = (q : ℕ) → q < l.outputs.links.width + 1 → slice_index l.all q ≡ union_from 0 l.p (λ k. bit_and (word ((port_of l.outputs q).index k) l.taken) (slice_index l.set k))
