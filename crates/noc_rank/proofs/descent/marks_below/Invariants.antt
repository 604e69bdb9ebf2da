use Rattle.std.proofs.Common.{◌≡◌, ◌<◌, ◌≤◌, ℕ, None, get_or, length, vec_len, vec_capacity}
use Rattle.noc_rank.specs.NotRisingTo.{mark_below}
use Rattle.noc_rank.proofs.descent.marks_below.Given as goal

abbrev pub invariant-loop-index : goal.invariant-loop-index
invariant-loop-index l = record {
  long : vec_len l.marks ≡ l.index;
  room : length l.list.ranks.now ≤ vec_capacity l.marks;
  each : (i : ℕ) → i < l.index → get_or l.marks.items i None ≡ mark_below l.list.ranks.now l.start i;
}
