use Rattle.std.proofs.Common.{◌≡◌, ℕ}
use Rattle.std.specs.Prelude.{◌&&◌, nat_lt}
use Rattle.noc_packet.specs.Set.{has_bit}
use Rattle.noc_columns.proofs.routes.bits_of.Given as goal

abbrev pub invariant-loop-channel : goal.invariant-loop-channel
invariant-loop-channel l = (k : ℕ) → has_bit l.bits k ≡ (nat_lt k l.channel && has_bit l.fn.set k)
