use Rattle.std.proofs.Common.{◌≡◌, ℕ, ◌<◌, bit_and, slice_index}
use Rattle.noc_sets.specs.Unions.{union_from}
use Rattle.noc_columns.specs.Picks.{port_at}
use Rattle.noc_columns.specs.Words.{word}
use Rattle.noc_columns.proofs.picks.any_side.Given as goal

abbrev pub invariant-loop-v : goal.invariant-loop-v
invariant-loop-v l = (j : ℕ) → j < l.ports.width → slice_index l.any j ≡ union_from 0 l.v (λ c. bit_and (word ((port_at l.ports j).index c) l.first) (word ((port_at l.ports j).index c) l.second))
