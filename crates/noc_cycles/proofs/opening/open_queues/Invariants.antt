use Rattle.std.proofs.Common.{◌≡◌, ℕ, ◌+◌, ◌<◌, length, slice_index}
use Rattle.noc_cycles.specs.Opened.{first_in}
use Rattle.noc_cycles.proofs.opening.open_queues.Given as goal

abbrev pub invariant-loop-r : goal.invariant-loop-r
invariant-loop-r l = record {
  places : length l.queue ≡ 64;
  times : length l.due ≡ 64;
  queue : (k : ℕ) → k < l.r → slice_index l.queue k ≡ (first_in l.firsts (l.first + k)).place;
  due : (k : ℕ) → k < l.r → slice_index l.due k ≡ (first_in l.firsts (l.first + k)).due;
}
