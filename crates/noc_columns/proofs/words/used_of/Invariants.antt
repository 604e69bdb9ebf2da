use Rattle.std.proofs.Common.{◌≡◌, ℕ}
use Rattle.std.specs.Prelude.{◌&&◌, nat_eq, nat_lt, not}
use Rattle.noc_packet.specs.Set.{has_bit}
use Rattle.noc_columns.specs.Words.{word}
use Rattle.noc_columns.proofs.words.used_of.Given as goal

abbrev pub invariant-loop-i : goal.invariant-loop-i
invariant-loop-i g l = (k : ℕ) → has_bit l.used k ≡ (nat_lt k l.i && not (nat_eq (word k l.words) 0))
