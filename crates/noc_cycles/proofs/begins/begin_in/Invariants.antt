use Rattle.std.proofs.Common.{◌≡◌, ℕ, ◌<◌, true, length, slice_index}
use Rattle.std.specs.Prelude.{◌&&◌, not, nat_eq, if◌then◌else◌}
use Rattle.noc_cycles.proofs.Common.{has_bit, start_in, packet_in, starts_by}
use Rattle.noc_cycles.proofs.begins.begin_in.Given as goal

abbrev pub invariant-loop-rest : goal.invariant-loop-rest
invariant-loop-rest l = record {
  size : length l.packets ≡ 64;
  part : (k : ℕ) → has_bit l.rest k ≡ true → has_bit l.routers k ≡ true;
  each : (k r : ℕ) → r < 64 → packet_in l.packets r k
      ≡ (if has_bit l.routers r && not (has_bit l.rest r)
      then (if nat_eq k l.channel then (start_in (starts_by l.starts) (slice_index l.queue r)).number else packet_in l.fn.packets r k)
      else packet_in l.fn.packets r k);
}

abbrev pub decreases-loop-rest : goal.decreases-loop-rest
decreases-loop-rest l = l.rest
