use Rattle.std.proofs.Common.{◌≡◌, ℕ, ◌<◌, length, slice_index}
use Rattle.std.specs.Prelude.{◌&&◌, nat_eq}
use Rattle.noc_packet.specs.Set.{has_bit}
use Rattle.noc_columns.specs.Supply.{digits_by, number_in}
use Rattle.noc_columns.specs.Words.{word}
use Rattle.noc_columns.proofs.switch.asked_by.Given as goal

abbrev pub invariant-loop-q : goal.invariant-loop-q
invariant-loop-q l = record {
  size : length l.asked ≡ 8;
  done : (k : ℕ) → k < l.q → (r : ℕ) → has_bit (slice_index l.asked k) r ≡ (has_bit (slice_index l.picks.any l.p) r && nat_eq (number_in (digits_by (word l.p) l.picks.port) r) k);
}
