use Rattle.std.proofs.Common.{◌≡◌, ℕ, ◌<◌, ◌*◌}
use Rattle.noc_packet.specs.Set.{has_bit}
use Rattle.noc_columns.specs.Near.{comes_near}
use Rattle.noc_columns.specs.Words.{word}
use Rattle.noc_columns.proofs.over_links.gather.Given as goal

abbrev pub invariant-loop-g : goal.invariant-loop-g
invariant-loop-g l = record {
  flits : (k r : ℕ) → k < 4 * l.g → r < 64 → has_bit (word k l.came.flits) r ≡ comes_near l.near l.left.flits k r;
  tails : (k r : ℕ) → k < 4 * l.g → r < 64 → has_bit (word k l.came.tails) r ≡ comes_near l.near l.left.tails k r;
  credits : (k r : ℕ) → k < 4 * l.g → r < 64 → has_bit (word k l.came.credits) r ≡ comes_near l.near l.left.credits k r;
}
