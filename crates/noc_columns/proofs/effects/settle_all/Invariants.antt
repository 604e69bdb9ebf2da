use Rattle.std.proofs.Common.{◌≡◌, ℕ, ◌<◌, ◌≤◌}
use Rattle.std.specs.Prelude.{◌&&◌, nat_eq, nat_lt}
use Rattle.noc_packet.specs.Set.{has_bit}
use Rattle.noc_sets.specs.Unions.{some_below}
use Rattle.noc_columns.specs.Channels.{decided_by, inputs_by, standing_by, verdicts_by}
use Rattle.noc_columns.specs.Steps.{Settles}
use Rattle.noc_columns.specs.Supply.{digits_by, number_in}
use Rattle.noc_columns.specs.Words.{word}
use Rattle.noc_columns.proofs.effects.settle_all.Given as goal

abbrev pub invariant-loop-i : goal.invariant-loop-i
invariant-loop-i g l = record {
  done : (k : ℕ) → k < l.i → Settles (nat_lt 3 g.row.BITS) (standing_by (word k) l.moves.standing.now) (decided_by (word k) l.moves.decided.now) (word k l.moves.grants.now.granted) (inputs_by (word k) l.fn.inputs) (inputs_by (word k) l.inputs) (verdicts_by (word k) l.fn.verdicts) (verdicts_by (word k) l.verdicts);
  left : (k : ℕ) → l.i ≤ k → inputs_by (word k) l.inputs ≡ inputs_by (word k) l.fn.inputs;
  told : (k : ℕ) → l.i ≤ k → verdicts_by (word k) l.verdicts ≡ verdicts_by (word k) l.fn.verdicts;
  gone : (k : ℕ) → k < l.i → (r : ℕ) → has_bit (word k l.arrived) r ≡ ((has_bit (word k l.verdicts.moved) r && has_bit (word k l.moves.standing.now.last) r) && nat_eq (number_in (digits_by (word k) l.moves.grants.now.sends.port) r) l.local);
  moving : (r : ℕ) → has_bit l.moving r ≡ some_below l.i (λ k. has_bit (word k l.verdicts.moved) r);
  leaving : (r : ℕ) → has_bit l.leaving r ≡ some_below l.i (λ k. has_bit (word k l.arrived) r);
}
