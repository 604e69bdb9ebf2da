use Rattle.std.proofs.Common.{◌≡◌, ℕ, ◌<◌, ◌+◌, slice_index}
use Rattle.std.specs.Prelude.{◌&&◌, nat_eq}
use Rattle.noc_packet.specs.Set.{has_bit}
use Rattle.noc_columns.specs.Picks.{port_of}
use Rattle.noc_columns.specs.Supply.{digits_by, number_in}
use Rattle.noc_columns.specs.Words.{word}
use Rattle.noc_columns.proofs.switch.ask.Given as goal

abbrev pub invariant-loop-p : goal.invariant-loop-p
invariant-loop-p l = (q k : ℕ) → q < l.outputs.links.width + 1 → k < l.p → (r : ℕ)
    → has_bit (word ((port_of l.outputs q).index k) l.asks) r ≡ (has_bit (slice_index l.picks.any k) r && nat_eq (number_in (digits_by (word k) l.picks.port) r) q)
