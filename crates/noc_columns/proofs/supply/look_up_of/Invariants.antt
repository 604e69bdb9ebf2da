use Rattle.std.proofs.Common.{◌≡◌, ℕ, ◌<◌, ◌≤◌, length}
use Rattle.noc_packet.specs.Set.{has_bit}
use Rattle.noc_columns.specs.Supply.{digits_by, is_fed_among, number_in}
use Rattle.noc_columns.specs.Words.{word}
use Rattle.noc_columns.proofs.supply.look_up_of.Given as goal

abbrev pub invariant-loop-i : goal.invariant-loop-i
invariant-loop-i g l = record {
  size : length l.supplied ≡ 72;
  done : (k : ℕ) → k < l.i → (r : ℕ) → number_in (digits_by (word k) l.sends.vc) r < g.row.VCS → number_in (digits_by (word k) l.sends.port) r ≤ g.row.WIDTH
      → has_bit (word k l.supplied) r ≡ is_fed_among g.row.LOOKED g.row.WIDTH l.some r (number_in (digits_by (word k) l.sends.port) r) (number_in (digits_by (word k) l.sends.vc) r);
}
