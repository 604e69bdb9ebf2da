use Rattle.std.proofs.Common.{◌≡◌, ℕ, ◌<◌, ◌≤◌}
use Rattle.noc_packet.specs.Set.{has_bit}
use Rattle.noc_sets.specs.Unions.{some_below}
use Rattle.noc_columns.specs.Channels.{inputs_by, links_by, standing_by}
use Rattle.noc_columns.specs.Steps.{Lands}
use Rattle.noc_columns.specs.Words.{word}
use Rattle.noc_columns.proofs.flits.land_all.Given as goal

abbrev pub invariant-loop-i : goal.invariant-loop-i
invariant-loop-i l = record {
  done : (k : ℕ) → k < l.i → Lands l.deep (links_by (word k) l.links) (inputs_by (word k) l.fn.inputs) (inputs_by (word k) l.inputs) (standing_by (word k) l.fn.standing) (standing_by (word k) l.standing) (word k l.no_credit);
  left : (k : ℕ) → l.i ≤ k → inputs_by (word k) l.inputs ≡ inputs_by (word k) l.fn.inputs;
  could : (k : ℕ) → l.i ≤ k → standing_by (word k) l.standing ≡ standing_by (word k) l.fn.standing;
  heading : (r : ℕ) → has_bit l.heading r ≡ some_below l.i (λ k. has_bit (word k l.standing.heads) r);
}
