use Rattle.std.proofs.Common.{◌≡◌, ◌⊎◌, ℕ, ◌<◌, ◌≤◌, ◌+◌, length, slice_index}
use Rattle.std.specs.Prelude.{◌&&◌, nat_eq}
use Rattle.noc_packet.specs.Set.{has_bit}
use Rattle.noc_columns.specs.Supply.{digits_by, number_in}
use Rattle.noc_columns.specs.Words.{word}
use Rattle.noc_columns.proofs.switch.send_by.Given as goal

abbrev pub invariant-loop-q : goal.invariant-loop-q
invariant-loop-q l = record {
  flits_size : length l.left.flits ≡ 72;
  tails_size : length l.left.tails ≡ 72;
  flits : (k : ℕ) → k < l.q → (r : ℕ) → has_bit (word (l.at + k) l.left.flits) r ≡ (has_bit (slice_index l.taken.any k) r && nat_eq (number_in (digits_by (word k) l.taken.vc) r) l.v);
  tails : (k : ℕ) → k < l.q → (r : ℕ) → has_bit (word (l.at + k) l.left.tails) r ≡ ((has_bit (slice_index l.taken.any k) r && nat_eq (number_in (digits_by (word k) l.taken.vc) r) l.v) && has_bit (slice_index l.taken.tail k) r);
  others : (k : ℕ) → (k < l.at) ⊎ (l.at + l.q ≤ k) → (word k l.left.flits ≡ word k l.fn.left.flits) × (word k l.left.tails ≡ word k l.fn.left.tails);
  rest : l.left.credits ≡ l.fn.left.credits;
}
