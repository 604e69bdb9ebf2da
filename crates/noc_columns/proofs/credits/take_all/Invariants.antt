use Rattle.std.proofs.Common.{◌≡◌, ℕ, ◌<◌, ◌≤◌, length}
use Rattle.noc_packet.specs.Set.{has_bit}
use Rattle.noc_sets.specs.Unions.{some_below}
use Rattle.noc_columns.specs.Channels.{outputs_by, returned_by}
use Rattle.noc_columns.specs.Planes.{list_of}
use Rattle.noc_columns.specs.Words.{word}
use Rattle.noc_columns.proofs.StepLemmas.{IsCredited}
use Rattle.noc_columns.proofs.credits.take_all.Given as goal

abbrev pub invariant-loop-i : goal.invariant-loop-i
invariant-loop-i l = record {
  draining_size : length l.outputs.draining ≡ 72;
  some_size : length l.returned.some ≡ 72;
  home_size : length l.returned.home ≡ 72;
  done : (k : ℕ) → k < l.i → IsCredited l.deep (list_of l.deep l.frame.places) (word k l.came) (outputs_by (word k) l.fn.outputs) (outputs_by (word k) l.outputs) (returned_by (word k) l.returned);
  left : (k : ℕ) → l.i ≤ k → outputs_by (word k) l.outputs ≡ outputs_by (word k) l.fn.outputs;
  back : (r : ℕ) → has_bit l.back r ≡ some_below l.i (λ k. has_bit (word k l.returned.home) r);
}
