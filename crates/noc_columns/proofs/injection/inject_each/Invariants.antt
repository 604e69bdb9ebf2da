use Rattle.std.proofs.Common.{◌≡◌, ℕ, ◌<◌, ◌+◌, length}
use Rattle.noc_packet.specs.Set.{has_bit}
use Rattle.noc_sets.specs.Unions.{some_below}
use Rattle.noc_columns.specs.Words.{word}
use Rattle.noc_columns.proofs.InjectionLemmas.{free_word, room_word}
use Rattle.noc_columns.proofs.injection.inject_each.Given as goal

abbrev pub invariant-loop-v : goal.invariant-loop-v
invariant-loop-v l = record {
  went_size : length l.injection.went ≡ 72;
  begun_size : length l.injection.begun ≡ 72;
  kept : l.injection.injecting ≡ l.fn.injection.injecting;
  some : (r : ℕ) → has_bit l.some r ≡ some_below l.v (λ k. has_bit (word (l.local.first + k) l.injection.went) r);
  went : (k : ℕ) → k < l.v → word (l.local.first + k) l.injection.went ≡ room_word l.deep l.frame.places l.inputs l.fn.injection.injecting (l.local.first + k);
  free : (k : ℕ) → k < l.v → word (l.local.first + k) l.injection.begun ≡ free_word l.deep l.inputs l.starts (l.local.first + k);
}
