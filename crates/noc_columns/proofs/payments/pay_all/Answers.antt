use Rattle.std.proofs.Common.{◌≡◌, ◌≢◌, ℕ, ◌<◌, ◌∙◌, ap, sym, subst, arith, List, set, bit_or}
use Rattle.noc_sets.specs.Planes.{lowered_by}
use Rattle.noc_columns.specs.Channels.{outputs_by}
use Rattle.noc_columns.specs.Planes.{list_of}
use Rattle.noc_columns.specs.Steps.{Pays}
use Rattle.noc_columns.specs.Words.{word}
use Rattle.noc_columns.specs.declared.channels.Outputs.{Outputs}
use Rattle.std.proofs.lemmas.List.{length-set}
use Rattle.noc_columns.proofs.PassLemmas.{all-next, word-here, word-other}
use Rattle.noc_columns.proofs.PlaneLemmas.{planes-lowered}
use Rattle.noc_columns.proofs.SetLemmas.{either, leaf, sets-are}
use Rattle.noc_columns.proofs.payments.pay_all.Goals as goal

pub loop-i-preserved : goal.loop-i-preserved
loop-i-preserved c =
    let i = c.loop-i.i in
    let inv = c.loop-i.invariant in
    let deep = c.args.deep in
    let few : i < 72 = omega arith in
    let now = inv.left i (omega arith) in
    let out = c.args.out.now in
    let freed = c.args.freed.now in
    let draining = bit_or (word i c.loop-i.outputs.draining) (word i freed) in
    let outputs : Outputs (List ℕ) = record { draining = set c.loop-i.outputs.draining i draining; credit = c.put.new.self } in
    let kept : (k : ℕ) → k ≢ i → outputs_by (word k) outputs ≡ outputs_by (word k) c.loop-i.outputs =
    λ k other x. record { draining = word-other c.loop-i.outputs.draining i draining k other x; credit = c.put.ensures.others k other x } in
    record {
      draining_size = length-set c.loop-i.outputs.draining i draining ∙ inv.draining_size;
      done = all-next (λ k. Pays deep (word k out) (word k freed) (outputs_by (word k) c.args.outputs.now) (outputs_by (word k) outputs)) i
          (λ k l. let other : k ≢ i = omega arith in subst (Pays deep (word k out) (word k freed) (outputs_by (word k) c.args.outputs.now)) (sym (kept k other)) (inv.done k l))
          (record {
            credit = c.put.ensures.here ∙ c.lowered-credit.ensures ∙ ap (λ l. lowered_by l (word i out)) (ap (list_of deep) (c.at.ensures ∙ ap (λ o. o.credit) now));
            draining = word-here c.loop-i.outputs.draining i draining inv.draining_size few ∙ ap (λ o. bit_or o.draining (word i freed)) now;
          });
      left = λ k l. kept k (omega arith) ∙ inv.left k (omega arith);
    }

pub returns : goal.returns
returns c = λ n r within.
    let done = λ (k : ℕ) (l : k < n.size). c.loop-i.invariant.done (n.index k) (let here = within k l in omega (arith, here)) in
    record {
      credit = planes-lowered n r c.args.deep c.args.outputs.now.credit c.loop-i.outputs.credit (leaf c.args.out.now) (λ k l. (done k l).credit);
      draining = sets-are n r (either (leaf c.args.outputs.now.draining) (leaf c.args.freed.now)) c.loop-i.outputs.draining (λ k l. (done k l).draining);
    }
