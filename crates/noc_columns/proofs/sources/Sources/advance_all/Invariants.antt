use Rattle.std.proofs.Common.{◌≡◌, ℕ, ◌+◌, ◌<◌, ◌≤◌, true, length, slice_index}
use Rattle.std.specs.Prelude.{◌&&◌, not, if◌then◌else◌}
use Rattle.noc_packet.specs.Set.{has_bit}
use Rattle.noc_sets.specs.Source.{start_in}
use Rattle.noc_columns.specs.Sources.{AreDue, starts_by}
use Rattle.noc_columns.proofs.sources.Sources.advance_all.Given as goal

abbrev pub invariant-loop-rest : goal.invariant-loop-rest
invariant-loop-rest l = record {
  size : length l.self.queue ≡ 64;
  part : (k : ℕ) → has_bit l.rest k ≡ true → has_bit l.routers k ≡ true;
  left : l.self.left ≡ l.fn.self.left;
  queue : (r : ℕ) → r < 64 → slice_index l.self.queue r ≡ (if has_bit l.routers r && not (has_bit l.rest r) then slice_index l.fn.self.queue r + 1 else slice_index l.fn.self.queue r);
  at : (r : ℕ) → r < 64 → slice_index l.self.due.at r ≡ (if has_bit l.routers r && not (has_bit l.rest r) then (start_in (starts_by l.starts) (slice_index l.fn.self.queue r + 1)).due else slice_index l.fn.self.due.at r);
  due : ((r : ℕ) → r < 64 → has_bit l.routers r ≡ true → slice_index l.fn.self.due.at r ≤ l.cycle) → AreDue l.cycle l.fn.self.due → AreDue l.cycle l.self.due;
}

abbrev pub decreases-loop-rest : goal.decreases-loop-rest
decreases-loop-rest l = l.rest
