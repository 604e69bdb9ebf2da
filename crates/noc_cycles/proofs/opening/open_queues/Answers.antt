use Rattle.std.proofs.Common.{◌≡◌, ◌≢◌, ◌+◌, ◌∙◌, ap, arith, set, slice_index, get_or-set_same, get_or-set_other}
use Rattle.noc_columns.proofs.PassLemmas.{all-next}
use Rattle.noc_cycles.proofs.Common.{length-set}
use Rattle.noc_cycles.specs.Opened.{first_in}
use Rattle.noc_cycles.specs.declared.first.First.{First}
use Rattle.noc_cycles.proofs.opening.open_queues.Goals as goal

pub loop-r-preserved : goal.loop-r-preserved
loop-r-preserved c =
    let r = c.loop-r.r in
    let inv = c.loop-r.invariant in
    let queue = c.loop-r.queue in
    let due = c.loop-r.due in
    let one = c.first_at-one.result in
    record {
      places = length-set queue r one.place ∙ inv.places;
      times = length-set due r one.due ∙ inv.times;
      queue = all-next (λ k. slice_index (set queue r one.place) k ≡ (first_in c.args.firsts.now (c.args.first + k)).place) r
          (λ k l. let other : k ≢ r = omega (arith, l) in get_or-set_other queue r k one.place 0 other ∙ inv.queue k l)
          (get_or-set_same queue r one.place 0 (omega (arith, inv.places)) ∙ ap (λ (f : First). f.place) c.first_at-one.ensures);
      due = all-next (λ k. slice_index (set due r one.due) k ≡ (first_in c.args.firsts.now (c.args.first + k)).due) r
          (λ k l. let other : k ≢ r = omega (arith, l) in get_or-set_other due r k one.due 0 other ∙ inv.due k l)
          (get_or-set_same due r one.due 0 (omega (arith, inv.times)) ∙ ap (λ (f : First). f.due) c.first_at-one.ensures);
    }

pub returns-clause-queue : goal.returns-clause-queue
returns-clause-queue c = λ r l. c.loop-r.invariant.queue r (omega (arith, l))

pub returns-clause-due : goal.returns-clause-due
returns-clause-due c = λ r l. c.loop-r.invariant.due r (omega (arith, l))
