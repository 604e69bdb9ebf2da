use Rattle.std.proofs.Common.{◌≡◌, ℕ, ◌/◌, ◌<◌, ◌≤◌}
use Rattle.std.specs.Prelude.{slice_index, if◌then◌else◌}
use Rattle.noc_columns.specs.Routing.{header_in}
use Rattle.noc_engine.specs.Shows.{has_block}
use Rattle.noc_engine.proofs.cuts.take_arrivals.Given as goal

abbrev pub invariant-loop-packet : goal.invariant-loop-packet
invariant-loop-packet l = record {
  done : (p : ℕ) → p < l.packet
      → slice_index l.arrivals p ≡ (if has_block l.tile ((header_in l.headers p).destination / 64) then slice_index l.tile.arrivals.items p else slice_index l.fn.arrivals p);
  left : (p : ℕ) → l.packet ≤ p → slice_index l.arrivals p ≡ slice_index l.fn.arrivals p;
}
