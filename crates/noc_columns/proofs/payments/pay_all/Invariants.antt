use Rattle.std.proofs.Common.{◌≡◌, ℕ, ◌<◌, ◌≤◌, length}
use Rattle.noc_columns.specs.Channels.{outputs_by}
use Rattle.noc_columns.specs.Steps.{Pays}
use Rattle.noc_columns.specs.Words.{word}
use Rattle.noc_columns.proofs.payments.pay_all.Given as goal

abbrev pub invariant-loop-i : goal.invariant-loop-i
invariant-loop-i l = record {
  draining_size : length l.outputs.draining ≡ 72;
  done : (k : ℕ) → k < l.i → Pays l.deep (word k l.out) (word k l.freed) (outputs_by (word k) l.fn.outputs) (outputs_by (word k) l.outputs);
  left : (k : ℕ) → l.i ≤ k → outputs_by (word k) l.outputs ≡ outputs_by (word k) l.fn.outputs;
}
