use Rattle.std.proofs.Common.{◌≡◌, ℕ, ◌<◌, ◌+◌, slice_index}
use Rattle.std.specs.Prelude.{◌&&◌, nat_eq}
use Rattle.noc_packet.specs.Set.{has_bit}
use Rattle.noc_columns.specs.Picks.{port_at, port_of}
use Rattle.noc_columns.specs.Supply.{digits_by, number_in}
use Rattle.noc_columns.specs.Words.{word}
use Rattle.noc_columns.proofs.switch.send.Given as goal

abbrev pub invariant-loop-v : goal.invariant-loop-v
invariant-loop-v l = record {
  sends : (p k : ℕ) → p < l.ports.links.width + 1 → k < l.v → word ((port_of l.ports p).index k) l.sends ≡ slice_index l.taken.sends p;
  flits : (q k : ℕ) → q < l.ports.links.width → k < l.v → (r : ℕ) → has_bit (word ((port_at l.ports.links q).index k) l.left.flits) r ≡ (has_bit (slice_index l.taken.any q) r && nat_eq (number_in (digits_by (word q) l.taken.vc) r) k);
  tails : (q k : ℕ) → q < l.ports.links.width → k < l.v → (r : ℕ) → has_bit (word ((port_at l.ports.links q).index k) l.left.tails) r ≡ ((has_bit (slice_index l.taken.any q) r && nat_eq (number_in (digits_by (word q) l.taken.vc) r) k) && has_bit (slice_index l.taken.tail q) r);
  left : l.left.credits ≡ l.fn.left.credits;
}
