use Rattle.std.proofs.Common.{◌≡◌, ◌≢◌, ◌*◌, ◌∙◌, arith, ap, sym}
use Rattle.noc_packet.specs.Set.{has_bit}
use Rattle.noc_sets.specs.Unions.{some_below}
use Rattle.noc_columns.specs.Channels.{inputs_by, links_by, standing_by}
use Rattle.noc_columns.specs.Steps.{Lands}
use Rattle.noc_columns.specs.Words.{word}
use Rattle.noc_columns.proofs.PassLemmas.{all-next, union-next}
use Rattle.noc_columns.proofs.FlitLemmas.{along-lands, lands-put, landed}
use Rattle.noc_columns.proofs.flits.land_all.Goals as goal

pub loop-i-preserved : goal.loop-i-preserved
loop-i-preserved c =
    let i = c.loop-i.i in
    let inv = c.loop-i.invariant in
    let had = c.at-had.ensures ∙ inv.left i (omega arith) in
    let could = c.at-could.ensures ∙ inv.could i (omega arith) in
    record {
      done = all-next (λ k. Lands c.args.deep (links_by (word k) c.args.links.now) (inputs_by (word k) c.args.inputs.now) (inputs_by (word k) c.put.new.self) (standing_by (word k) c.args.standing.now) (standing_by (word k) c.put-in-loop-i.new.self) (word k c.put-in-loop-i-2.new.words)) i
          (λ k l. let other : k ≢ i = omega arith in along-lands (c.put.ensures.others k other) (c.put-in-loop-i.ensures.others k other) (c.put-in-loop-i-2.ensures.others k other) (inv.done k l))
          (lands-put c.at-came.ensures had could c.put.ensures.here (c.put-in-loop-i.ensures.here ∙ ap (λ x. record c.with_flits-landed.result.standing { supplied = x }) (ap (λ s. s.supplied) (sym c.at-could.ensures) ∙ sym c.with_flits-landed.ensures.supplied)) c.put-in-loop-i-2.ensures.here c.with_flits-landed.ensures);
      left = λ k l. c.put.ensures.others k (omega arith) ∙ inv.left k (omega arith);
      could = λ k l. c.put-in-loop-i.ensures.others k (omega arith) ∙ inv.could k (omega arith);
      heading = λ r. union-next c.loop-i.heading _ i r (λ k. word k c.loop-i.standing.heads) _ (inv.heading r) (λ k l. ap (λ s. s.heads) (c.put-in-loop-i.ensures.others k (omega arith))) (ap (λ s. s.heads) c.put-in-loop-i.ensures.here);
    }

pub returns : goal.returns
returns c = record {
  flits = λ n r within.
      landed c.args.deep c.args.links.now c.args.inputs.now c.loop-i.inputs c.args.standing.now c.loop-i.standing c.loop-i.no_credit n r
      (λ k few. c.loop-i.invariant.done (n.index k) (let here = within k few in omega (arith, here)));
  heads = λ r. let e : c.loop-i.i ≡ 4 * c.args.frame.now.groups = omega arith in c.loop-i.invariant.heading r ∙ ap (λ m. some_below m (λ k. has_bit (word k c.loop-i.standing.heads) r)) e;
}
