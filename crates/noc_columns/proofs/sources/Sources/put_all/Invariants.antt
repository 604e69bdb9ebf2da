use Rattle.std.proofs.Common.{◌≡◌, ℕ, ◌-◌, ◌<◌, true, slice_index}
use Rattle.std.specs.Prelude.{◌&&◌, not, nat_eq, if◌then◌else◌}
use Rattle.noc_packet.specs.Set.{has_bit}
use Rattle.noc_sets.specs.Source.{start_in}
use Rattle.noc_columns.specs.Sources.{left_in, starts_by}
use Rattle.noc_columns.proofs.sources.Sources.put_all.Given as goal

abbrev pub invariant-loop-rest : goal.invariant-loop-rest
invariant-loop-rest l = record {
  part : (k : ℕ) → has_bit l.rest k ≡ true → has_bit l.begins k ≡ true;
  left : (r : ℕ) → r < 64 → left_in l.self.left r ≡ (if has_bit l.begins r && not (has_bit l.rest r) then (start_in (starts_by l.starts) (slice_index l.fn.self.queue r)).length - 1 else left_in l.fn.self.left r);
  last : (r : ℕ) → r < 64 → has_bit l.last r ≡ ((has_bit l.begins r && not (has_bit l.rest r)) && nat_eq (start_in (starts_by l.starts) (slice_index l.fn.self.queue r)).length 1);
  rest : l.self ≡ record l.fn.self { left = l.self.left };
}

abbrev pub decreases-loop-rest : goal.decreases-loop-rest
decreases-loop-rest l = l.rest
