use Rattle.std.proofs.Common.{◌≡◌, ℕ, ◌+◌, get_or}
use Rattle.std.specs.Prelude.{◌&&◌}
use Rattle.noc_packet.specs.Set.{has_bit}
use Rattle.noc_steps.specs.Reached.{any_below}
use Rattle.noc_steps.proofs.reached.taken.Given as goal

abbrev pub invariant-loop-input : goal.invariant-loop-input
invariant-loop-input l = (k : ℕ) → has_bit l.all k ≡ any_below l.input (λ i. has_bit l.coming i && has_bit (get_or l.sets (l.first + i) 0) k)
