use Rattle.std.proofs.Common.{◌≡◌, ◌≢◌, ℕ, ◌*◌, ◌∙◌, arith, ap, ap₂, sym}
use Rattle.std.specs.Prelude.{◌&&◌, nat_eq, nat_lt}
use Rattle.noc_packet.specs.Set.{has_bit}
use Rattle.noc_packet.proofs.SetLemmas.{both_members}
use Rattle.noc_sets.specs.Unions.{some_below}
use Rattle.noc_columns.specs.Channels.{decided_by, inputs_by, standing_by, verdicts_by}
use Rattle.noc_columns.specs.Steps.{Settles}
use Rattle.noc_columns.specs.Supply.{digits_by, number_in}
use Rattle.noc_columns.specs.Words.{word}
use Rattle.noc_columns.specs.declared.channels.Standing.{Standing}
use Rattle.noc_columns.specs.declared.channels.Verdicts.{Verdicts}
use Rattle.noc_columns.specs.declared.supply.Digits.{Digits}
use Rattle.noc_columns.proofs.EffectLemmas.{along-settles, settled, settles-put}
use Rattle.noc_columns.proofs.PassLemmas.{all-next, union-next}
use Rattle.noc_columns.proofs.SupplyLemmas.{member-is, number-is}
use Rattle.noc_columns.proofs.effects.settle_all.Goals as goal

pub loop-i-preserved : goal.loop-i-preserved
loop-i-preserved g c =
    let i = c.loop-i.i in
    let inv = c.loop-i.invariant in
    let moves = c.args.moves.now in
    let last = moves.standing.now.last in
    let port = moves.grants.now.sends.port in
    let new = c.put.new.self in
    let now = c.loop-i.arrived in
    let after = c.put-in-loop-i-2.new.words in
    let had = c.at-had.ensures ∙ inv.left i (omega arith) in
    let told = c.at-told.ensures ∙ inv.told i (omega arith) in
    let tails = λ (r : ℕ).
    both_members c.with_effects-settled.result.verdicts.moved c.at-could.result.last r
    ∙ ap₂ (λ a b. has_bit a r && has_bit b r) (sym (ap (λ (v : Verdicts ℕ). v.moved) c.put.ensures.here)) (ap (λ (s : Standing ℕ). s.last) c.at-could.ensures) in
    record {
      done = all-next (λ k. Settles (nat_lt 3 g.row.BITS) (standing_by (word k) moves.standing.now) (decided_by (word k) moves.decided.now) (word k moves.grants.now.granted) (inputs_by (word k) c.args.inputs.now) (inputs_by (word k) c.put-in-loop-i.new.self) (verdicts_by (word k) c.args.verdicts.now) (verdicts_by (word k) new)) i
          (λ k l. let other : k ≢ i = omega arith in along-settles (c.put-in-loop-i.ensures.others k other) (c.put.ensures.others k other) (inv.done k l))
          (settles-put c.at-could.ensures c.at-what.ensures had told c.put-in-loop-i.ensures.here c.put.ensures.here c.with_effects-settled.ensures);
      left = λ k l. c.put-in-loop-i.ensures.others k (omega arith) ∙ inv.left k (omega arith);
      told = λ k l. c.put.ensures.others k (omega arith) ∙ inv.told k (omega arith);
      gone = all-next (λ k. (r : ℕ) → has_bit (word k after) r ≡ ((has_bit (word k new.moved) r && has_bit (word k last) r) && nat_eq (number_in (digits_by (word k) port) r) c.args.local)) i
          (λ k l r. let other : k ≢ i = omega (arith, l) in
          ap (λ w. has_bit w r) (c.put-in-loop-i-2.ensures.others k other) ∙ inv.gone k l r
          ∙ sym (ap (λ (v : Verdicts ℕ). (has_bit v.moved r && has_bit (word k last) r) && nat_eq (number_in (digits_by (word k) port) r) c.args.local) (c.put.ensures.others k other)))
          (λ r. ap (λ w. has_bit w r) c.put-in-loop-i-2.ensures.here ∙ c.having-gone.ensures r ∙ ap₂ (λ b (d : Digits ℕ). b && nat_eq (number_in d r) c.args.local) (tails r) c.at.ensures);
      moving = λ r. union-next c.loop-i.moving _ i r (λ k. word k c.loop-i.verdicts.moved) _ (inv.moving r) (λ k l. ap (λ v. v.moved) (c.put.ensures.others k (omega arith))) (ap (λ v. v.moved) c.put.ensures.here);
      leaving = λ r. union-next c.loop-i.leaving c.having-gone.result i r (λ k. word k now) (λ k. word k after) (inv.leaving r) (λ k l. c.put-in-loop-i-2.ensures.others k (omega (arith, l))) c.put-in-loop-i-2.ensures.here;
    }

pub returns : goal.returns
returns g c = record {
  settles = λ n r within.
      let moves = c.args.moves.now in
      settled (nat_lt 3 g.row.BITS) moves.standing.now moves.decided.now moves.grants.now.granted c.args.inputs.now c.loop-i.inputs c.args.verdicts.now c.loop-i.verdicts n r
      (λ k few. c.loop-i.invariant.done (n.index k) (let here = within k few in omega (arith, here)));
  arrived = λ n r k within l.
      let moves = c.args.moves.now in
      member-is n r k c.loop-i.arrived l
      ∙ c.loop-i.invariant.gone (n.index k) (let here = within k l in omega (arith, here)) r
      ∙ sym (ap₂ (λ a b. a && b)
      (ap₂ (λ a b. a && b) (member-is n r k c.loop-i.verdicts.moved l) (member-is n r k moves.standing.now.last l))
      (ap (λ m. nat_eq m c.args.local) (number-is n r k moves.grants.now.sends.port l)));
  moved = λ r. let e : c.loop-i.i ≡ 4 * c.args.frame.now.groups = omega arith in c.loop-i.invariant.moving r ∙ ap (λ m. some_below m (λ k. has_bit (word k c.loop-i.verdicts.moved) r)) e;
  some = λ r. let e : c.loop-i.i ≡ 4 * c.args.frame.now.groups = omega arith in c.loop-i.invariant.leaving r ∙ ap (λ m. some_below m (λ k. has_bit (word k c.loop-i.arrived) r)) e;
}
