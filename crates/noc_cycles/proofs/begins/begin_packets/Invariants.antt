use Rattle.std.proofs.Common.{◌≡◌, ℕ, ◌<◌, slice_index}
use Rattle.std.specs.Prelude.{if◌then◌else◌}
use Rattle.noc_cycles.proofs.Common.{has_bit, up_by, start_in, packet_in, port_at, starts_by, set_below, word}
use Rattle.noc_cycles.proofs.begins.begin_packets.Given as goal

abbrev pub invariant-loop-v : goal.invariant-loop-v
invariant-loop-v l = (r k : ℕ) → r < 64 → packet_in l.packets r k
    ≡ (if has_bit (up_by (set_below l.v (λ c. has_bit (word ((port_at l.local 0).index c) l.begun) r)) l.links) k
    then (start_in (starts_by l.starts) (slice_index l.queue r)).number
    else packet_in l.fn.packets r k)
