use Rattle.std.proofs.Common.{◌≡◌, ℕ, ◌<◌, ◌≤◌, true}
use Rattle.std.specs.Prelude.{◌||◌}
use Rattle.noc_packet.specs.Set.{has_bit}
use Rattle.noc_columns.specs.Words.{word}
use Rattle.noc_columns.proofs.supply.is_one_dry.Given as goal

abbrev pub invariant-loop-i : goal.invariant-loop-i
invariant-loop-i l = (k r : ℕ) → l.first ≤ k → k < l.i → has_bit l.wet r ≡ true → (has_bit (word k l.some) r || has_bit (word k l.draining) r) ≡ true
