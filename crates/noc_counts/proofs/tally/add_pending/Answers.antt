use Rattle.std.proofs.Common.{◌≡◌, ◌∙◌, ap₂, arith, set, get_or-set_same}
use Rattle.noc_counts.specs.Tallies.{carry_over, sum_of}
use Rattle.noc_columns.specs.Words.{word}
use Rattle.noc_columns.proofs.PassLemmas.{passed-next, word-other}
use Rattle.noc_counts.proofs.tally.add_pending.Goals as goal

pub loop-i-preserved : goal.loop-i-preserved
loop-i-preserved c =
    let i = c.loop-i.i in
    let inv = c.loop-i.invariant in
    let pending = c.args.pending.now in
    let sum = sum_of (word i c.loop-i.bits) (word i pending) (word i c.loop-i.carry) in
    let over = carry_over (word i c.loop-i.bits) (word i pending) (word i c.loop-i.carry) in
    let bits : word i c.loop-i.bits ≡ word i c.args.bits.now = inv.bits.left i (omega arith) in
    let carry : word i c.loop-i.carry ≡ word i c.args.carry.now = inv.carry.left i (omega arith) in
    record {
      bits = passed-next (λ k. sum_of (word k c.args.bits.now) (word k pending) (word k c.args.carry.now)) (λ k. word k c.args.bits.now) (λ k. word k c.loop-i.bits) (λ k. word k (set c.loop-i.bits i sum)) i inv.bits
          (get_or-set_same c.loop-i.bits i sum 0 (omega arith) ∙ ap₂ (λ a b. sum_of a (word i pending) b) bits carry)
          (λ k other. word-other c.loop-i.bits i sum k other);
      carry = passed-next (λ k. carry_over (word k c.args.bits.now) (word k pending) (word k c.args.carry.now)) (λ k. word k c.args.carry.now) (λ k. word k c.loop-i.carry) (λ k. word k (set c.loop-i.carry i over)) i inv.carry
          (get_or-set_same c.loop-i.carry i over 0 (omega arith) ∙ ap₂ (λ a b. carry_over a (word i pending) b) bits carry)
          (λ k other. word-other c.loop-i.carry i over k other);
    }
