use Rattle.std.proofs.Common.{◌≡◌, ℕ, ◌∙◌, ap₂, arith, set, get_or-set_same}
use Rattle.noc_counts.specs.Tallies.{with_four}
use Rattle.noc_columns.specs.Words.{word}
use Rattle.noc_columns.proofs.PassLemmas.{passed-next, word-other}
use Rattle.noc_counts.proofs.tally.add_four.Goals as goal

pub loop-i-preserved : goal.loop-i-preserved
loop-i-preserved c =
    let i = c.loop-i.i in
    let inv = c.loop-i.invariant in
    let sets = c.args.sets.now in
    let four = λ (k ones twos : ℕ). with_four ones twos (word k sets.first.now) (word k sets.second.now) (word k sets.third.now) (word k sets.fourth.now) in
    let now = four i (word i c.loop-i.ones) (word i c.loop-i.twos) in
    let ones : word i c.loop-i.ones ≡ word i c.args.ones.now = inv.ones.left i (omega arith) in
    let twos : word i c.loop-i.twos ≡ word i c.args.twos.now = inv.twos.left i (omega arith) in
    record {
      ones = passed-next (λ k. (four k (word k c.args.ones.now) (word k c.args.twos.now)).ones) (λ k. word k c.args.ones.now) (λ k. word k c.loop-i.ones) (λ k. word k (set c.loop-i.ones i now.ones)) i inv.ones
          (get_or-set_same c.loop-i.ones i now.ones 0 (omega arith) ∙ ap₂ (λ a b. (four i a b).ones) ones twos)
          (λ k other. word-other c.loop-i.ones i now.ones k other);
      twos = passed-next (λ k. (four k (word k c.args.ones.now) (word k c.args.twos.now)).twos) (λ k. word k c.args.twos.now) (λ k. word k c.loop-i.twos) (λ k. word k (set c.loop-i.twos i now.twos)) i inv.twos
          (get_or-set_same c.loop-i.twos i now.twos 0 (omega arith) ∙ ap₂ (λ a b. (four i a b).twos) ones twos)
          (λ k other. word-other c.loop-i.twos i now.twos k other);
      carry = passed-next (λ k. (four k (word k c.args.ones.now) (word k c.args.twos.now)).carry) (λ k. word k c.args.carry.now) (λ k. word k c.loop-i.carry) (λ k. word k (set c.loop-i.carry i now.carry)) i inv.carry
          (get_or-set_same c.loop-i.carry i now.carry 0 (omega arith) ∙ ap₂ (λ a b. (four i a b).carry) ones twos)
          (λ k other. word-other c.loop-i.carry i now.carry k other);
    }
