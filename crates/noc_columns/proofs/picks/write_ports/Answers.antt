use Rattle.std.proofs.Common.{◌≡◌, ◌<◌, ◌∙◌, arith, set, slice_index, get_or-set_other, get_or-set_same}
use Rattle.std.proofs.lemmas.List.{length-set}
use Rattle.noc_columns.proofs.PassLemmas.{all-next}
use Rattle.noc_columns.proofs.picks.write_ports.Goals as goal

pub loop-p-preserved : goal.loop-p-preserved
loop-p-preserved c =
    let p = c.loop-p.p in
    let few : p < 8 = omega arith in
    let inv = c.loop-p.invariant in
    let to = c.loop-p.to in
    let x = slice_index c.args.by_port.now p in
    record {
      size = length-set to p x ∙ inv.size;
      done = all-next (λ k. slice_index (set to p x) k ≡ slice_index c.args.by_port.now k) p
          (λ k l. get_or-set_other to p k x 0 (omega (arith, l)) ∙ inv.done k l)
          (get_or-set_same to p x 0 (omega (arith, inv.size, few)));
    }

pub returns : goal.returns
returns c = λ k l. c.loop-p.invariant.done k (omega (arith, l))
