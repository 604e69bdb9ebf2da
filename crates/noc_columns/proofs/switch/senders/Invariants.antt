use Rattle.std.proofs.Common.{◌≡◌, ℕ, ◌<◌, ◌+◌, length, slice_index}
use Rattle.noc_packet.specs.Set.{has_bit}
use Rattle.noc_sets.specs.Unions.{some_below}
use Rattle.noc_columns.specs.Picks.{port_of}
use Rattle.noc_columns.specs.Words.{word}
use Rattle.noc_columns.proofs.switch.senders.Given as goal

abbrev pub invariant-loop-p : goal.invariant-loop-p
invariant-loop-p l = record {
  size : length l.sends ≡ 8;
  done : (k : ℕ) → k < l.p → (r : ℕ) → has_bit (slice_index l.sends k) r ≡ some_below (l.outputs.links.width + 1) (λ q. has_bit (word ((port_of l.outputs q).index k) l.taken) r);
}
